-- The searches of a register, seen through what its elements mean. Assumes nothing.
use Rattle.std.proofs.Common.{◌≡◌, Bool, List, [], ◌∷◌, map, ℤ, filter, refl, ap, ◌∙◌, inl, inr}
use mathlib.Core.List.{map-map}
use Rattle.std.proofs.lemmas.Bool.{cases_Bool}
use Rattle.std.specs.Option.{option_map}
use Rattle.model.specs.Ids.{find, same_number, lowest, lowest_id_where}

-- the elements that pass a test, and their meanings
kept_mapped : {A B : Type 0} (f : A → B) (test : B → Bool) (xs : List A) → filter test (map f xs) ≡ map f (filter (λ x. test (f x)) xs)
kept_mapped f test [] = refl
kept_mapped f test (x ∷ xs) =
    elim (cases_Bool (test (f x))) [
      | inl h ↦ simp h (ap (λ ys. f x ∷ ys) (kept_mapped f test xs))
      | inr h ↦ simp h (kept_mapped f test xs)
    ]

pub lowest_mapped : {A B : Type 0} (f : A → B) (id_of : B → ℤ) (test : B → Bool) (xs : List A) → lowest_id_where id_of test (map f xs) ≡ lowest_id_where (λ x. id_of (f x)) (λ x. test (f x)) xs
lowest_mapped f id_of test xs = ap (λ ys. lowest (map id_of ys)) (kept_mapped f test xs) ∙ ap lowest (map-map id_of f (filter (λ x. test (f x)) xs))

-- the first with the id, by what it means
pub find_mapped : {A B : Type 0} (f : A → B) (id_of : B → ℤ) (i : ℤ) (xs : List A) → find id_of i (map f xs) ≡ option_map f (find (λ x. id_of (f x)) i xs)
find_mapped f id_of i [] = refl
find_mapped f id_of i (x ∷ xs) =
    elim (cases_Bool (same_number (id_of (f x)) i)) [
      | inl h ↦ simp h
      | inr h ↦ simp h (find_mapped f id_of i xs)
    ]
