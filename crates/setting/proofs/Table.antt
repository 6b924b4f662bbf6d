-- The rule of a table, proved at all of its entries by one test that is computed. Assumes nothing.
use Rattle.std.proofs.Common.{◌≡◌, ℕ, zero, suc, ◌+◌, ◌<◌, Bool, true, ◌&&◌, eqb, List, [], ◌∷◌, length, get_or, sym, ap, ◌∙◌, le_of_suc-le-suc, not-suc-le-zero, add-zero, add-suc, suc-add, zero-add, arith}
use Rattle.std.proofs.lemmas.Bool.{eqb-true, and_parts}

-- from place i on, each entry is what the rule gives at its place
abbrev pub follows : (ℕ → ℕ) → ℕ → List ℕ → Bool
follows rule i [] = true
follows rule i (x ∷ xs) = eqb x (rule i) && follows rule (suc i) xs

from : (rule : ℕ → ℕ) (xs : List ℕ) (i : ℕ) → follows rule i xs ≡ true → (k : ℕ) → k < length xs → get_or xs k 0 ≡ rule (i + k)
from rule [] i t k h = absurd (not-suc-le-zero h)
from rule (x ∷ xs) i t zero h = eqb-true x (rule i) (and_parts (eqb x (rule i)) (follows rule (suc i) xs) t).0 ∙ ap rule (sym (add-zero i))
from rule (x ∷ xs) i t (suc k) h =
    from rule xs (suc i) (and_parts (eqb x (rule i)) (follows rule (suc i) xs) t).1 k (le_of_suc-le-suc h) ∙ ap rule (suc-add i k ∙ sym (add-suc i k))

-- the entry at a place of a table of n entries is what the rule gives there
pub entry_is : (rule : ℕ → ℕ) (n k : ℕ) → k < n → (xs : List ℕ) → length xs ≡ n → follows rule 0 xs ≡ true → get_or xs k 0 ≡ rule k
entry_is rule n k h xs e t = from rule xs 0 t k (omega arith) ∙ ap rule (zero-add k)
