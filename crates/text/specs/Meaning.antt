-- What a text of the code means: its bytes in the text block, and whether it is good. Assumes nothing.
use Rattle.std.specs.Prelude.{Bool, cond, Some, None, Option}
use Rattle.model.specs.Bytes.{Bytes}
use Rattle.model.specs.Texts.{lies_in, bytes_at}
use Rattle.text.specs.declared.text.Text.{Text}

-- the bytes of a text
abbrev pub bytes_of : Bytes → Text → Bytes
bytes_of block t = bytes_at block t.place t.length

-- it lies inside the block and is not too long
abbrev pub sound : Bytes → Text → Bool
sound block t = lies_in block t.place t.length

-- a text handed in: its bytes, or none where it is not sound
abbrev pub text_in : Bytes → Text → Option Bytes
text_in block t = cond (sound block t) (Some (bytes_of block t)) None
