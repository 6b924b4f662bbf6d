-- What the calls do to the vector that they are lent. Assumes nothing.
use Rattle.std.specs.Prelude.{◌≡◌, ℕ, ◌≤◌, ◌-◌, Bool, true, false, List, ◌++◌, length, drop, Some, None, Ok, Err, Option, Result}
use Rattle.quote.specs.Quotes.{unquoted}

-- where a text was found, n bytes of the input were taken, and the text's bytes stand after what was there before
abbrev pub Found : List ℕ → List ℕ → List ℕ → Option ℕ → Type 0
Found input before after None = unquoted input ≡ None
Found input before after (Some n) =
    (n ≤ length input) × ((bs : List ℕ) × (after ≡ before ++ bs) × (unquoted input ≡ Some (record { bytes = bs; rest = drop n input })))

-- a text was read
abbrev pub has_text : {E : Type 0} → Result (Option ℕ) E → Bool
has_text (Ok None) = false
has_text (Ok (Some n)) = true
has_text (Err e) = false

-- the last part of a list
abbrev pub IsEndOf : List ℕ → List ℕ → Type 0
IsEndOf after input = after ≡ drop (length input - length after) input
