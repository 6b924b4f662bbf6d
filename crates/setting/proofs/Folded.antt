-- Two lists compared place by place. Assumes nothing.
use Rattle.std.proofs.Common.{◌≡◌, ℕ, suc, ◌+◌, ◌<◌, ◌≤◌, Bool, true, false, ◌&&◌, List, [], ◌∷◌, map, length, get_or, drop, refl, ap, ◌∙◌}
use Rattle.std.proofs.lemmas.List.{at_drop_more, at_drop_all}
use Rattle.std.proofs.lemmas.Bool.{and_right}
use Rattle.model.specs.Bytes.{same_list}

-- lists under a function
pub same_mapped : {A B : Type 0} (f : A → B) (same : B → B → Bool) (xs ys : List A) → same_list same (map f xs) (map f ys) ≡ same_list (λ x y. same (f x) (f y)) xs ys
same_mapped f same [] [] = refl
same_mapped f same [] (y ∷ ys) = refl
same_mapped f same (x ∷ xs) [] = refl
same_mapped f same (x ∷ xs) (y ∷ ys) = ap (λ b. same (f x) (f y) && b) (same_mapped f same xs ys)

module _ {A : Type 0} (same : A → A → Bool) where
  -- lists of two lengths differ
  pub unlike_lengths : (xs ys : List A) → (length xs ≡ length ys → ⊥) → same_list same xs ys ≡ false
  unlike_lengths [] [] h = absurd (h refl)
  unlike_lengths [] (y ∷ ys) h = refl
  unlike_lengths (x ∷ xs) [] h = refl
  unlike_lengths (x ∷ xs) (y ∷ ys) h = and_right (same x y) (same_list same xs ys) (unlike_lengths xs ys (λ e. h (ap suc e)))

  -- what is left from place i on
  module _ (xs ys : List A) (i : ℕ) where
    same_left : (d : A) → i < length xs → i < length ys →
        same_list same (drop i xs) (drop i ys) ≡ (same (get_or xs i d) (get_or ys i d) && same_list same (drop (i + 1) xs) (drop (i + 1) ys))
    same_left d h k = at_drop_more (λ zs. same_list same zs (drop i ys)) xs i d h ∙ at_drop_more (same_list same (get_or xs i d ∷ drop (i + 1) xs)) ys i d k

    pub same_passed : (d : A) → i < length xs → i < length ys → same (get_or xs i d) (get_or ys i d) ≡ true →
        same_list same (drop i xs) (drop i ys) ≡ same_list same (drop (i + 1) xs) (drop (i + 1) ys)
    same_passed d h k t = same_left d h k ∙ simp t

    pub same_failed : (d : A) → i < length xs → i < length ys → same (get_or xs i d) (get_or ys i d) ≡ false → same_list same (drop i xs) (drop i ys) ≡ false
    same_failed d h k t = same_left d h k ∙ simp t

    pub same_ended : length xs ≤ i → length ys ≤ i → same_list same (drop i xs) (drop i ys) ≡ true
    same_ended h k = at_drop_all (λ zs. same_list same zs (drop i ys)) xs i h ∙ at_drop_all (same_list same []) ys i k
