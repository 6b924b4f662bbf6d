-- A line that is read word by word. Assumes nothing.
use Rattle.std.specs.Prelude.{ℕ, Bool, ◌==◌, ◌||◌, not, List, [], ◌∷◌, drop, length, Option, Some, None, slice_index, option_map, option_and_then, if◌then◌else◌}
use Rattle.quote.specs.Quotes.{hex_byte}
use Rattle.std.specs.List.{before_first, position_or_len}

-- a line, and what of it is still to be read
pub record Progress : Type 0 where
  pub line : List ℕ
  pub rest : List ℕ

-- a space (32) or a tab (9)
abbrev pub is_blank : ℕ → Bool
is_blank b = b == 32 || b == 9

-- what follows the blanks at the start
abbrev pub past_blanks : List ℕ → List ℕ
past_blanks bs = drop (position_or_len (λ b. not (is_blank b)) bs) bs

-- the word at the start: up to the first blank
abbrev pub first_word : List ℕ → List ℕ
first_word = before_first is_blank

-- what follows that word
abbrev pub past_word : List ℕ → List ℕ
past_word bs = drop (position_or_len is_blank bs) bs

-- the word that comes next, after any blanks
abbrev pub next_word : Progress → List ℕ
next_word p = first_word (past_blanks p.rest)

-- after those blanks
abbrev pub after_blanks : Progress → Progress
after_blanks p = record p { rest = past_blanks p.rest }

-- after that word
abbrev pub after_word : Progress → Progress
after_word p = record p { rest = past_word (past_blanks p.rest) }

-- the byte of a pair of digits
abbrev pub pair_byte : List ℕ → Option ℕ
pair_byte ds = hex_byte (slice_index ds 0) (slice_index ds 1)

-- the bytes that digits write two by two, none where one is no digit or stands alone
abbrev pub bytes_of_digits : List ℕ → Option (List ℕ)
bytes_of_digits [] = Some []
bytes_of_digits (h ∷ []) = None
bytes_of_digits (h ∷ l ∷ ds) = option_and_then (λ b. option_map (λ bs. b ∷ bs) (bytes_of_digits ds)) (hex_byte h l)

-- the 16 bytes of a uuid, which 32 digits write
abbrev pub uuid_of : List ℕ → Option (List ℕ)
uuid_of word = if length word == 32 then bytes_of_digits word else None
