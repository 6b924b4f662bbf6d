use Rattle.std.specs.Int.{w64}
use Rattle.cursor.specs.Line.{next_word}
use Rattle.cursor.proofs.Numerals.{parses_signed}
use Rattle.cursor.proofs.cursor.Cursor.time.Goals as goal

pub returns-clause-value : goal.returns-clause-value
returns-clause-value c = parses_signed w64 (next_word c.args.self.now) c.parsed.result c.parsed.ensures.value
