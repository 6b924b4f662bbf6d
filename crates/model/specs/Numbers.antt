-- The two readings of a number, integers compared, and truthy values. Assumes nothing.
use Rattle.std.specs.Prelude.{ℕ, ◌+◌, ◌-◌, ◌*◌, ◌^◌, Bool, false, cond, not, ◌&&◌, [], ◌∷◌, ℤ, pos, neg_ℤ, Some, None, Option, ◌==◌, nat_le}
use Rattle.std.specs.Int.Signed.{non_neg}
use Rattle.model.specs.Bytes.{Bytes}

-- the number that these digits (48 to 57) make after the digits of n
abbrev pub digits : ℕ → Bytes → Option ℕ
digits n [] = Some n
digits n (b ∷ bs) = cond (nat_le 48 b && nat_le b 57) (digits (n * 10 + (b - 48)) bs) None

-- at least one digit, and nothing else
abbrev pub numeral : Bytes → Option ℕ
numeral [] = None
numeral (b ∷ bs) = digits 0 (b ∷ bs)

-- the number, or none where it is over the limit
abbrev pub at_most : ℕ → Option ℕ → Option ℕ
at_most top None = None
at_most top (Some n) = cond (nat_le n top) (Some n) None

-- the number with its sign
abbrev pub as_integer : (ℕ → ℤ) → Option ℕ → Option ℤ
as_integer sign None = None
as_integer sign (Some n) = Some (sign n)

-- one leading + (43) or - (45), and values from -2^63 to 2^63 - 1
abbrev pub signed_reading : Bytes → Option ℤ
signed_reading [] = None
signed_reading (b ∷ bs) =
    cond (b == 45)
    (as_integer (λ n. neg_ℤ (pos n)) (at_most (2 ^ 63) (numeral bs)))
    (as_integer pos (at_most (2 ^ 63 - 1) (numeral (cond (b == 43) bs (b ∷ bs)))))

-- one leading + (43) only, and values to 2^64 - 1
abbrev pub unsigned_reading : Bytes → Option ℕ
unsigned_reading [] = None
unsigned_reading (b ∷ bs) = at_most (2 ^ 64 - 1) (numeral (cond (b == 43) bs (b ∷ bs)))

-- there is a number, and it is negative
abbrev pub below_zero : Option ℤ → Bool
below_zero None = false
below_zero (Some z) = not (non_neg z)
