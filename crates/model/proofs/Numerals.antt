-- What writes a number is a text. Assumes nothing.
use Rattle.std.proofs.Common.{ℕ, zero, suc, ◌<◌, eqb, List, [], ◌∷◌, drop, IsUtf8, arith}
use Rattle.std.specs.Str.{IsAscii}
use Rattle.std.specs.Str.Parse.{IsNumeral, without_leading_plus, without_leading_sign}
use Rattle.std.proofs.lemmas.Bool.{cond_both}
use Rattle.std.proofs.lemmas.Bool.Decides.{nat_tests}
use Rattle.std.proofs.lemmas.Fmt.{IsAscii-from_digits}
use Rattle.std.proofs.lemmas.Str.{IsUtf8-from_ascii}

ascii_cons : (b : ℕ) (bs : List ℕ) → b < 128 → IsAscii bs → IsAscii (b ∷ bs)
ascii_cons b bs h k zero = h
ascii_cons b bs h k (suc i) = k i

after_plus : (b : ℕ) (bs : List ℕ) → IsNumeral 10 (without_leading_plus (b ∷ bs)) → IsAscii (b ∷ bs)
after_plus b bs =
    cond_both (eqb b 43) 1 0 (λ n. IsNumeral 10 (drop n (b ∷ bs)) → IsAscii (b ∷ bs))
    (λ e d. ascii_cons b bs (grind (arith, nat_tests, e)) (IsAscii-from_digits bs d.1))
    (λ _ d. IsAscii-from_digits (b ∷ bs) d.1)

after_sign : (b : ℕ) (bs : List ℕ) → IsNumeral 10 (without_leading_sign (b ∷ bs)) → IsAscii (b ∷ bs)
after_sign b bs =
    cond_both (eqb b 45) bs (without_leading_plus (b ∷ bs)) (λ ds. IsNumeral 10 ds → IsAscii (b ∷ bs))
    (λ e d. ascii_cons b bs (grind (arith, nat_tests, e)) (IsAscii-from_digits bs d.1))
    (λ _. after_plus b bs)

pub unsigned_text : (bs : List ℕ) → IsNumeral 10 (without_leading_plus bs) → IsUtf8 bs
unsigned_text [] d = absurd (omega (arith, d.0))
unsigned_text (b ∷ bs) d = IsUtf8-from_ascii (b ∷ bs) (after_plus b bs d)

pub signed_text : (bs : List ℕ) → IsNumeral 10 (without_leading_sign bs) → IsUtf8 bs
signed_text [] d = absurd (omega (arith, d.0))
signed_text (b ∷ bs) d = IsUtf8-from_ascii (b ∷ bs) (after_sign b bs d)
