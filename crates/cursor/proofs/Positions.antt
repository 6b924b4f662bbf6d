-- The first place at which a test passes. Assumes nothing.
use Rattle.std.proofs.Common.{◌≡◌, ℕ, Bool, Option, not, List, length, position, unwrap_or, ap, ◌∙◌, arith}
use Rattle.std.specs.List.{position_or_len}
use Rattle.std.proofs.lemmas.List.Sums.{prefix_len-le-length}
use Rattle.std.proofs.lemmas.Bool.Decides.{nat_tests}

-- the length where it passes at none
pub unwrap_or-position : (p : ℕ → Bool) (xs : List ℕ) (o : Option ℕ) (n : ℕ) → o ≡ position p xs → n ≡ unwrap_or o (length xs) → n ≡ position_or_len p xs
unwrap_or-position p xs o n e f = f ∙ (ap (λ v. unwrap_or v (length xs)) e ∙ grind (arith, nat_tests, prefix_len-le-length (λ x. not (p x)) xs))
