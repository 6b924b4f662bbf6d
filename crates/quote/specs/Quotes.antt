-- A text in quotes: how bytes are written, and how they are read back. Assumes nothing.
use Rattle.std.specs.Prelude.{◌≡◌, ℕ, ◌+◌, ◌-◌, ◌*◌, ◌/◌, ◌%◌, ◌<◌, cond, ◌&&◌, ◌||◌, List, [], ◌∷◌, ◌++◌, Some, None, Option, ◌==◌, nat_le, nat_lt, option_and_then, option_map}
use Rattle.std.specs.List.{flat_map, AllByRecursion}

-- the digit of a number below 16: 0 to 9 (48 to 57), a to f (97 to 102)
abbrev pub hex_digit : ℕ → ℕ
hex_digit n = cond (nat_lt n 10) (48 + n) (87 + n)

-- the two digits of a byte
abbrev pub hex_digits : ℕ → List ℕ
hex_digits b = hex_digit (b / 16) ∷ hex_digit (b % 16) ∷ []

-- how a byte is written: " (34) and \ (92) after a \, bytes 32 to 126 as they are, any other as \xhh
abbrev pub escaped : ℕ → List ℕ
escaped b =
    cond (b == 34 || b == 92) (92 ∷ b ∷ [])
    (cond (nat_le 32 b && nat_le b 126) (b ∷ [])
    (92 ∷ 120 ∷ hex_digits b))

-- how a text is written
abbrev pub quoted : List ℕ → List ℕ
quoted bs = 34 ∷ (flat_map escaped bs ++ (34 ∷ []))

-- the number of a digit of either case, none where it is no digit
abbrev pub hex_value : ℕ → Option ℕ
hex_value d =
    cond (nat_le 48 d && nat_le d 57) (Some (d - 48))
    (cond (nat_le 97 d && nat_le d 102) (Some (d - 87))
    (cond (nat_le 65 d && nat_le d 70) (Some (d - 55)) None))

-- the byte that two digits write, none where one of them is no digit
abbrev pub hex_byte : ℕ → ℕ → Option ℕ
hex_byte h l = option_and_then (λ x. option_map (λ y. x * 16 + y) (hex_value l)) (hex_value h)

-- a text that was read, and what follows its closing quote
pub record Reading : Type 0 where
  pub bytes : List ℕ
  pub rest : List ℕ

-- b before what is read after it
abbrev pub with_byte : ℕ → Option Reading → Option Reading
with_byte b None = None
with_byte b (Some q) = Some (record { bytes = b ∷ q.bytes; rest = q.rest })

-- what is read from here on, none where the text is not closed or an escape is bad: up to a ", and after a \ an escape
abbrev mutual
  pub reading : List ℕ → Option Reading
  reading [] = None
  reading (b ∷ bs) =
      cond (b == 34) (Some (record { bytes = []; rest = bs }))
      (cond (b == 92) (escape_reading bs) (with_byte b (reading bs)))

  -- after a \: a " or a \ as it is, or an x and two digits
  pub escape_reading : List ℕ → Option Reading
  escape_reading [] = None
  escape_reading (b ∷ bs) =
      cond (b == 34 || b == 92) (with_byte b (reading bs))
      (cond (b == 120) (digits_reading bs) None)

  -- after \x
  pub digits_reading : List ℕ → Option Reading
  digits_reading [] = None
  digits_reading (h ∷ []) = None
  digits_reading (h ∷ l ∷ bs) = option_and_then (λ b. with_byte b (reading bs)) (hex_byte h l)

-- what is read where no byte comes next: nothing more at a closing quote, else none
abbrev pub closing : List ℕ → Option Reading
closing [] = None
closing (b ∷ bs) = cond (b == 34) (Some (record { bytes = []; rest = bs })) None

-- the text at the start, from its opening quote on
abbrev pub unquoted : List ℕ → Option Reading
unquoted [] = None
unquoted (b ∷ bs) = cond (b == 34) (reading bs) None

-- each is a byte
abbrev pub AllBytes : List ℕ → Type 0
AllBytes = AllByRecursion (λ b. b < 256)

-- the quoted text reads back to the same bytes, whatever follows it
abbrev pub ReadsBack : List ℕ → Type 0
ReadsBack bs = (rest : List ℕ) → unquoted (quoted bs ++ rest) ≡ Some (record { bytes = bs; rest = rest })
