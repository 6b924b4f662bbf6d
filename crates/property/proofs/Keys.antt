-- Keys compared: equal, and in their order. Assumes nothing.
use Rattle.std.proofs.Common.{◌≡◌, ℕ, suc, true, false, List, [], ◌∷◌, None, Decides, refl, arith}
use Rattle.std.proofs.lemmas.Slice.Eq.{compares_Decides}
use Rattle.std.proofs.lemmas.Bool.Decides.{nat_tests}
use Rattle.model.specs.Bytes.{Bytes, same_bytes, before}
use Rattle.model.specs.Version.{Property}
use Rattle.model.specs.Edits.{misplaced, out_of_order, has_key}

pub bytes_decides : (a b : Bytes) → Decides (same_bytes a b) (a ≡ b)
bytes_decides = compares_Decides same_bytes (record { empty = refl; shorter = λ _ _. refl; longer = λ _ _. refl; heads = λ _ _ _ _. refl })

pub same_refl : (a : Bytes) → same_bytes a a ≡ true
same_refl a = (bytes_decides a a).1 refl

pub same_sym : (a b : Bytes) → same_bytes a b ≡ same_bytes b a
same_sym a b = grind (arith, bytes_decides a b, bytes_decides b a)

before_trans : (a b c : Bytes) → before a b ≡ true → before b c ≡ true → before a c ≡ true
before_trans [] [] c p q = grind arith
before_trans [] (y ∷ ys) [] p q = grind arith
before_trans [] (y ∷ ys) (z ∷ zs) p q = refl
before_trans (x ∷ xs) [] c p q = grind arith
before_trans (x ∷ xs) (y ∷ ys) [] p q = grind arith
before_trans (x ∷ xs) (y ∷ ys) (z ∷ zs) p q = let r = before_trans xs ys zs in grind (arith, nat_tests)

-- a key before another is not the same
before_differs : (a b : Bytes) → before a b ≡ true → same_bytes b a ≡ false
before_differs [] b p = grind arith
before_differs (x ∷ xs) [] p = grind arith
before_differs (x ∷ xs) (y ∷ ys) p = let r = before_differs xs ys in grind (arith, nat_tests)

-- what comes before the first of keys in order can stand there
in_front : (i : ℕ) (j k : Bytes) (ps : List Property) → before j k ≡ true → misplaced i k ps ≡ None → misplaced i j ps ≡ None
in_front i j k [] b e = refl
in_front i j k (p ∷ ps) b e = grind (arith, before_trans j k p.key)

not_later : (i : ℕ) (k : Bytes) (ps : List Property) → misplaced i k ps ≡ None → has_key k ps ≡ false
not_later i k [] e = refl
not_later i k (p ∷ ps) e = grind (arith, same_sym k p.key, before_differs k p.key, not_later (suc i) k ps, in_front (suc i) k p.key ps)

-- no key comes again
abbrev pub Distinct : List Property → Type 0
Distinct [] = Unit {0}
Distinct (p ∷ ps) = (has_key p.key ps ≡ false) × Distinct ps

distinct_after : (i : ℕ) (k : Bytes) (ps : List Property) → misplaced i k ps ≡ None → Distinct ps
distinct_after i k [] e = tt
distinct_after i k (p ∷ ps) e = let s : misplaced (suc i) p.key ps ≡ None = grind arith in (not_later (suc i) p.key ps s, distinct_after (suc i) p.key ps s)

-- of keys in order none comes again
pub distinct : (ps : List Property) → out_of_order ps ≡ None → Distinct ps
distinct [] e = tt
distinct (p ∷ ps) e = (not_later 1 p.key ps e, distinct_after 1 p.key ps e)
