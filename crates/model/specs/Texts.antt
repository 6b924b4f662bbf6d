-- A text as a place and a length in the text block. Assumes nothing.
use Rattle.std.specs.Prelude.{ℕ, ◌+◌, Bool, ◌&&◌, length, take, drop, nat_le}
use Rattle.model.specs.Bytes.{Bytes}
use Rattle.model.specs.Limits.{most_block_bytes, most_text_bytes}

-- the block is not too long
abbrev pub block_fits : Bytes → Bool
block_fits block = nat_le (length block) most_block_bytes

-- the text lies inside the block and is not too long
abbrev pub lies_in : Bytes → ℕ → ℕ → Bool
lies_in block place len = nat_le (place + len) (length block) && nat_le len most_text_bytes

-- the bytes of the text; of one that reaches outside, those inside
abbrev pub bytes_at : Bytes → ℕ → ℕ → Bytes
bytes_at block place len = take len (drop place block)
