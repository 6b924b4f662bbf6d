-- The first key out of order, found over the pairs of neighbours. Assumes nothing.
use Rattle.std.proofs.Common.{◌≡◌, ℕ, suc, ◌+◌, Bool, not, cond, nat_lt, List, [], ◌∷◌, map, length, drop, Some, None, Option, sym, refl, ap, ◌∙◌, inl, inr, arith}
use Rattle.std.specs.List.{zip, position_or_len}
use Rattle.std.specs.Option.{option_map}
use Rattle.std.proofs.lemmas.Bool.{cases_Bool, cases_lt, lt-ltb, le-ltb}
use Rattle.model.specs.Bytes.{before}
use Rattle.model.specs.Version.{Property}
use Rattle.model.specs.Edits.{misplaced, out_of_order}

-- what `position` answers of a first place among so many
abbrev pub place_or_none : ℕ → ℕ → Option ℕ
place_or_none n m = cond (nat_lt n m) (Some n) None

-- one place on, counted from one place back
one_on : (i n m : ℕ) → option_map (λ k. k + suc i) (place_or_none n m) ≡ option_map (λ k. k + i) (place_or_none (1 + n) (suc m))
one_on i n m =
    elim (cases_lt n m) [
      | inl h ↦ rw (lt-ltb n m h, lt-ltb (1 + n) (suc m) (omega (arith, h))) (ap Some (omega arith))
      | inr h ↦ rw (le-ltb n m h, le-ltb (1 + n) (suc m) (omega (arith, h))) refl
    ]

module _ {A : Type 0} (f : A → Property) where
  -- the second key does not come after the first
  abbrev pub falls : A × A → Bool
  falls p = not (before (f p.0).key (f p.1).key)

  -- the first fall among the pairs, counted from i
  abbrev pub fall_in : ℕ → List (A × A) → Option ℕ
  fall_in i ps = option_map (λ k. k + i) (place_or_none (position_or_len falls ps) (length ps))

  fall_from : (i : ℕ) (x : A) (xs : List A) → misplaced i (f x).key (map f xs) ≡ fall_in i (zip (x ∷ xs) xs)
  fall_from i x [] = refl
  fall_from i x (y ∷ ys) =
      elim (cases_Bool (before (f x).key (f y).key)) [
        | inl t ↦ rw t (fall_from (suc i) y ys ∙ one_on i (position_or_len falls (zip (y ∷ ys) ys)) (length (zip (y ∷ ys) ys)))
        | inr t ↦ rw (t, lt-ltb 0 (suc (length (zip (y ∷ ys) ys))) (omega arith)) (ap Some (omega arith))
      ]

  pub first_out : (xs : List A) (r : Option ℕ) → r ≡ place_or_none (position_or_len falls (zip xs (drop 1 xs))) (length (zip xs (drop 1 xs))) → option_map (λ k. k + 1) r ≡ out_of_order (map f xs)
  first_out [] r e = ap (option_map (λ k. k + 1)) e
  first_out (x ∷ xs) r e = ap (option_map (λ k. k + 1)) e ∙ sym (fall_from 1 x xs)
