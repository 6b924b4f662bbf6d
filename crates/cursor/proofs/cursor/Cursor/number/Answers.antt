use Rattle.cursor.specs.Line.{next_word}
use Rattle.cursor.proofs.Numerals.{parses_unsigned}
use Rattle.cursor.proofs.cursor.Cursor.number.Goals as goal

pub returns-clause-value : goal.returns-clause-value
returns-clause-value c = parses_unsigned 32 (next_word c.args.self.now) c.parsed.result c.parsed.ensures.value
