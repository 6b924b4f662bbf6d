-- Ids looked for in a list, and its lowest and highest, as the library's calls answer them. Assumes nothing.
use Rattle.std.proofs.Common.{◌≡◌, Bool, cond, ◌||◌, Decides, List, [], ◌∷◌, map, ℤ, Bor, Some, None, Option, sym, refl, ap, ◌∙◌, arith, inl, inr, false}
use Rattle.std.specs.Int.{int_max, int_min}
use Rattle.std.specs.Ordering.{int_cmp, max_by_ordering, min_by_ordering}
use Rattle.std.specs.List.{list_any, find as first, fold, reduce}
use Rattle.std.specs.Option.{option_map, option_copied}
use Rattle.std.proofs.lemmas.Bool.{cases_Bool}
use Rattle.std.proofs.lemmas.Int.{ints, clamps}
use Rattle.model.proofs.Basics.{same_true, same_eq}
use Rattle.model.specs.Ids.{same_number, least_of, greatest_of, lowest, highest, find}

-- the test of two ids says whether they are equal
pub asks_id : (a b : ℤ) → Decides (same_number a b) (a ≡ b)
asks_id a b = (same_true a b, same_eq a b)

pub same_no : (a b : ℤ) → (a ≡ b → ⊥) → same_number a b ≡ false
same_no a b n = elim (cases_Bool (same_number a b)) [ inl t ↦ absurd (n (same_true a b t)) | inr f ↦ f ]

-- the first that has the id
module _ {A : Type 0} (id_of : A → ℤ) (k : ℤ) where
  first_is : (xs : List A) → first (λ x. same_number (id_of x) k) xs ≡ find id_of k xs
  first_is [] = refl
  first_is (x ∷ xs) = ap (cond (same_number (id_of x) k) (Some x)) (first_is xs)

  copied_is : (r : Option (Bor A)) → option_copied r ≡ option_map (λ x. x.now) r
  copied_is None = refl
  copied_is (Some x) = refl

  pub found_is : (xs : List A) (r : Option (Bor A)) (s : Option A) → s ≡ option_copied r → option_map (λ x. x.now) r ≡ first (λ x. same_number (id_of x) k) xs → s ≡ find id_of k xs
  found_is xs r s e f = e ∙ copied_is r ∙ f ∙ first_is xs

-- some element passes, read through a function
pub any_mapped : {A B : Type 0} (f : A → B) (test : B → Bool) (xs : List A) → list_any (λ x. test (f x)) xs ≡ list_any test (map f xs)
any_mapped f test [] = refl
any_mapped f test (x ∷ xs) = ap (λ b. test (f x) || b) (any_mapped f test xs)

-- the best of a list, by an operation that does not mind how its uses are grouped
module _ (op : ℤ → ℤ → ℤ) (grouped : (i j k : ℤ) → op (op i j) k ≡ op i (op j k))
    (pick : ℤ → Option ℤ → ℤ) (alone : (i : ℤ) → pick i None ≡ i) (beside : (i j : ℤ) → pick i (Some j) ≡ op i j)
    (best : List ℤ → Option ℤ) (none : best [] ≡ None) (more : (i : ℤ) (is : List ℤ) → best (i ∷ is) ≡ Some (pick i (best is))) where
  step : (i j : ℤ) (m : Option ℤ) → pick (op i j) m ≡ op i (pick j m)
  step i j None = alone (op i j) ∙ ap (op i) (sym (alone j))
  step i j (Some k) = beside (op i j) k ∙ grouped i j k ∙ ap (op i) (sym (beside j k))

  folded : (i : ℤ) (is : List ℤ) → fold op i is ≡ pick i (best is)
  folded i [] = sym (ap (pick i) none ∙ alone i)
  folded i (j ∷ is) = folded (op i j) is ∙ step i j (best is) ∙ sym (ap (pick i) (more j is) ∙ beside i (pick j (best is)))

  best_is : (is : List ℤ) → reduce op is ≡ best is
  best_is [] = sym none
  best_is (i ∷ is) = ap Some (folded i is) ∙ sym (more i is)

-- what the order of two numbers picks
pub greater_is : (i j : ℤ) → max_by_ordering (int_cmp i j) i j ≡ int_max i j
greater_is i j = grind (arith, ints)

pub less_is : (i j : ℤ) → min_by_ordering (int_cmp i j) i j ≡ int_min i j
less_is i j = grind (arith, ints)

pub highest_is : (is : List ℤ) → reduce int_max is ≡ highest is
highest_is = best_is int_max (λ i j k. omega (arith, ints, clamps)) greatest_of (λ i. refl) (λ i j. refl) highest refl (λ i is. refl)

pub lowest_is : (is : List ℤ) → reduce int_min is ≡ lowest is
lowest_is = best_is int_min (λ i j k. omega (arith, ints, clamps)) least_of (λ i. refl) (λ i j. refl) lowest refl (λ i is. refl)
