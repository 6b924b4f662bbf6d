-- What passes a test, moved to the front of a list in place. Assumes nothing.
use Rattle.std.proofs.Common.{◌≡◌, ℕ, ◌+◌, ◌-◌, ◌<◌, ◌≤◌, Bool, true, false, cond, List, [], ◌∷◌, ◌++◌, length, get_or, take, drop, set, filter, sym, refl, ap, ◌∙◌, ap₂, append_assoc, append-nil, arith}
use Rattle.std.specs.List.{AllByRecursion}
use Rattle.std.proofs.lemmas.List.{length_push, get_or-append_right, get_or-drop, drop_more, set_at}
use Rattle.std.proofs.lemmas.List.Elements.{filter_more}
use Rattle.expiry.specs.Expiry.{over_front}

-- a turn of the loop at i: ys are the slots as they stand, y is read from them
module _ {A : Type 0} (q : A → Bool) (xs ys : List A) (i k : ℕ) (y : A) (h : i < length xs) (le : k ≤ i) (n : k ≡ length (filter q (take i xs))) (inv : ys ≡ over_front (filter q (take i xs)) xs) (read : y ≡ get_or ys i y) where
  as_it_was : y ≡ get_or xs i y
  as_it_was =
      read ∙ ap (λ l. get_or l i y) inv
      ∙ get_or-append_right (filter q (take i xs)) (drop (length (filter q (take i xs))) xs) k i y (sym n) le
      ∙ get_or-drop (length (filter q (take i xs))) xs (i - k) y ∙ ap (λ j. get_or xs j y) (omega arith)

  one_more : filter q (take (i + 1) xs) ≡ filter q (take i xs) ++ cond (q y) (y ∷ []) []
  one_more = filter_more q xs i y h ∙ ap (λ x. filter q (take i xs) ++ cond (q x) (x ∷ []) []) (sym as_it_was)

  kept_one_more : q y ≡ true → filter q (take (i + 1) xs) ≡ filter q (take i xs) ++ y ∷ []
  kept_one_more t = one_more ∙ ap (λ b. filter q (take i xs) ++ cond b (y ∷ []) []) t

  pub count_yes : q y ≡ true → k + 1 ≡ length (filter q (take (i + 1) xs))
  count_yes t = ap (λ m. m + 1) n ∙ sym (ap length (kept_one_more t) ∙ length_push (filter q (take i xs)) y)

  pub front_yes : q y ≡ true → set ys k y ≡ over_front (filter q (take (i + 1) xs)) xs
  front_yes t =
      ap (λ l. set l k y) (inv ∙ ap (λ j. filter q (take i xs) ++ drop j xs) (sym n) ∙ ap (λ l. filter q (take i xs) ++ l) (drop_more xs k y (omega arith)))
      ∙ set_at (filter q (take i xs)) (get_or xs k y) (drop (k + 1) xs) y k (sym n)
      ∙ sym (append_assoc (filter q (take i xs)) (y ∷ []) (drop (k + 1) xs))
      ∙ ap₂ (λ l j. l ++ drop j xs) (sym (kept_one_more t)) (count_yes t)

  kept_no_more : q y ≡ false → filter q (take i xs) ≡ filter q (take (i + 1) xs)
  kept_no_more t = sym (one_more ∙ ap (λ b. filter q (take i xs) ++ cond b (y ∷ []) []) t ∙ append-nil (filter q (take i xs)))

  pub count_no : q y ≡ false → k ≡ length (filter q (take (i + 1) xs))
  count_no t = n ∙ ap length (kept_no_more t)

  pub front_no : q y ≡ false → ys ≡ over_front (filter q (take (i + 1) xs)) xs
  front_no t = inv ∙ ap (λ l. over_front l xs) (kept_no_more t)

-- tests that agree keep the same
pub kept_by_same : {A : Type 0} (p q : A → Bool) (xs : List A) → AllByRecursion (λ x. p x ≡ q x) xs → filter p xs ≡ filter q xs
kept_by_same p q [] a = refl
kept_by_same p q (x ∷ xs) a = ap₂ (λ b l. cond b (x ∷ l) l) a.0 (kept_by_same p q xs a.1)
