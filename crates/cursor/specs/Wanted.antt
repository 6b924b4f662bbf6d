-- What a line should have had, in words. Assumes nothing.
use Rattle.std.specs.Prelude.{ℕ, List, ◌++◌, codes}
use Rattle.cursor.specs.declared.fault.Expected.{Expected}
use Rattle.cursor.specs.declared.fault.Expected.TheVariants.{Statement, Word, Text, TextOrNone, Number, Id, Time, Uuid, ListEnd, LineEnd}
use Rattle.cursor.specs.declared.fault.ReadFault.{ReadFault}
use Rattle.cursor.specs.declared.fault.ReadFault.TheVariants.{NoMemory, Expected as NotThere}

-- what stands after "expected"
abbrev pub wanted_words : Expected → List ℕ
wanted_words Statement = codes "a statement"
wanted_words (Word word) = word.now
wanted_words Text = codes "a text in quotes"
wanted_words TextOrNone = codes "a text in quotes, or none"
wanted_words Number = codes "a number from 0 to 4294967295"
wanted_words Id = codes "a number of 32 bits"
wanted_words Time = codes "a number of 64 bits"
wanted_words Uuid = codes "a uuid of 32 hexadecimal digits"
wanted_words ListEnd = codes "the end of the list"
wanted_words LineEnd = codes "the end of the line"

-- why a line was not read, in words
abbrev pub fault_words : ReadFault → List ℕ
fault_words NoMemory = codes "out of memory"
fault_words (NotThere e) = codes "expected " ++ wanted_words e
