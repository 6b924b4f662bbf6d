-- Counting the higher ids, the lowest that has a place, and what is kept by it. Assumes nothing.
use Rattle.std.proofs.Common.{◌≡◌, ℕ, ◌-◌, ◌<◌, ◌≤◌, Bool, true, false, cond, not, ◌&&◌, ◌||◌, eqb, ltb, ◌⊎◌, List, [], ◌∷◌, map, ℤ, Some, None, filter, Option, sym, refl, ap, ◌∙◌, subst, ap₂, inl, inr, arith}
use lib.Signed.{lt_z, le_z}
use Rattle.std.specs.Int.{int_min}
use Rattle.std.specs.List.{AllByRecursion, fold}
use Rattle.std.proofs.ByRecursion.{All-weaker}
use Rattle.std.proofs.lemmas.Bool.Decides.{same_from_decides}
use Rattle.std.proofs.lemmas.Int.{ints}
use Rattle.std.proofs.lemmas.Bool.{true≢false, cases_Bool, ltb-true, lt-ltb, le-ltb, ne_eqb, eq-eqb, or_left, or_right, or_from, cond-true, cond-false}
use Rattle.model.specs.Ids.{same_number, least_of, lowest, lowest_id_where}
use Rattle.model.proofs.Counts.{count_weaker}
use Rattle.expiry.specs.Expiry.{higher_than, places_for, at_least, has_place, id_stays, keeps_id, lowest_placed, KeepsWhatStays}
use Rattle.expiry.specs.declared.expire.Kept.{Kept}

-- no more are above a higher id
pub higher_less : (is : List ℤ) (j i : ℤ) → le_z j i ≡ true → higher_than is i ≤ higher_than is j
unfolding higher_than
higher_less is j i h = count_weaker (lt_z i) (lt_z j) (λ x e. grind (arith, ints)) is

pub place_above : (is : List ℤ) (places : ℕ) (j i : ℤ) → le_z j i ≡ true → has_place is places j ≡ true → has_place is places i ≡ true
place_above is places j i h p = lt-ltb (higher_than is i) places (omega (arith, higher_less is j i h, ltb-true (higher_than is j) places p))

-- how many places there are
module _ (ids : List ℤ) (current : ℤ) (n added : ℕ) where
  pub places_all : (higher_than ids current < n) ⊎ (n ≡ added) → n ≡ places_for ids current n added
  unfolding places_for
  places_all e = sym (cond-true (ltb (higher_than ids current) n || eqb n added) n (n - 1) (elim e [
    | inl h ↦ or_left (ltb (higher_than ids current) n) (eqb n added) (lt-ltb (higher_than ids current) n h)
    | inr h ↦ or_right (ltb (higher_than ids current) n) (eqb n added) (eq-eqb n added h)
  ]))

  pub places_but_one : n ≤ higher_than ids current → (n ≡ added → ⊥) → n - 1 ≡ places_for ids current n added
  unfolding places_for
  places_but_one h d = sym (cond-false (ltb (higher_than ids current) n || eqb n added) n (n - 1) (or_from (ltb (higher_than ids current) n) (eqb n added) (le-ltb (higher_than ids current) n h) (ne_eqb n added d)))

at_least_either : (z : ℤ) (m : Option ℤ) (i : ℤ) → le_z (least_of z m) i ≡ true → (le_z z i ≡ true) ⊎ (at_least m i ≡ true)
at_least_either z None i h = inl h
at_least_either z (Some j) i h = elim (cases_Bool (le_z z i)) [ inl t ↦ inl t | inr t ↦ inr (grind (arith, ints)) ]

at_least_first : (z : ℤ) (m : Option ℤ) → le_z (least_of z m) z ≡ true
at_least_first z None = grind (arith, ints)
at_least_first z (Some j) = grind (arith, ints)

at_least_next : (z : ℤ) (m : Option ℤ) (i : ℤ) → at_least m i ≡ true → le_z (least_of z m) i ≡ true
at_least_next z None i h = absurd (true≢false (sym h))
at_least_next z (Some j) i h = grind (arith, ints)

-- a test that each higher id passes too is a comparison with the lowest that passes
module _ {A : Type 0} (f : A → ℤ) (p : A → Bool) (rises : (x y : A) → le_z (f x) (f y) ≡ true → p x ≡ true → p y ≡ true) where
  lowest_sound : (xs : List A) (v : A) → at_least (lowest_id_where f p xs) (f v) ≡ true → p v ≡ true
  lowest_sound [] v h = absurd (true≢false (sym h))
  lowest_sound (x ∷ xs) v h = go (p x) refl h (lowest_sound xs v)
    where
      go : (b : Bool) → p x ≡ b → at_least (lowest (map f (cond b (x ∷ filter p xs) (filter p xs)))) (f v) ≡ true → (at_least (lowest_id_where f p xs) (f v) ≡ true → p v ≡ true) → p v ≡ true
      go true e h' more = elim (at_least_either (f x) (lowest_id_where f p xs) (f v) h') [ inl t ↦ rises x v t e | inr t ↦ more t ]
      go false e h' more = more h'

  lowest_next : (x : A) (xs : List A) (i : ℤ) → at_least (lowest_id_where f p xs) i ≡ true → at_least (lowest_id_where f p (x ∷ xs)) i ≡ true
  lowest_next x xs i h = go (p x)
    where
      go : (b : Bool) → at_least (lowest (map f (cond b (x ∷ filter p xs) (filter p xs)))) i ≡ true
      go true = at_least_next (f x) (lowest_id_where f p xs) i h
      go false = h

  lowest_complete : (xs : List A) → AllByRecursion (λ v. p v ≡ true → at_least (lowest_id_where f p xs) (f v) ≡ true) xs
  lowest_complete [] = tt
  lowest_complete (x ∷ xs) = (
    (λ e. subst (λ b. at_least (lowest (map f (cond b (x ∷ filter p xs) (filter p xs)))) (f x) ≡ true) (sym e) (at_least_first (f x) (lowest_id_where f p xs))),
    All-weaker (λ v. p v ≡ true → at_least (lowest_id_where f p xs) (f v) ≡ true) (λ v. p v ≡ true → at_least (lowest_id_where f p (x ∷ xs)) (f v) ≡ true) (λ v g e. lowest_next x xs (f v) (g e)) xs (lowest_complete xs),
  )

  pub lowest_decides : (xs : List A) → AllByRecursion (λ v. at_least (lowest_id_where f p xs) (f v) ≡ p v) xs
  lowest_decides xs =
      All-weaker (λ v. p v ≡ true → at_least (lowest_id_where f p xs) (f v) ≡ true) (λ v. at_least (lowest_id_where f p xs) (f v) ≡ p v)
      (λ v g. same_from_decides {P = p v ≡ true} (at_least (lowest_id_where f p xs) (f v)) (p v) (lowest_sound xs v, g) ((λ e. e), (λ e. e))) xs (lowest_complete xs)

-- what is kept is what stays
pub keeps_stays : {A : Type 0} (f : A → ℤ) (xs : List A) (current : ℤ) (n added : ℕ) (k : Kept) → k.current ≡ current → k.lowest ≡ lowest_placed f xs (places_for (map f xs) current n added) → KeepsWhatStays f k xs current n added
unfolding keeps_id id_stays
keeps_stays f xs current n added k c e =
    let places : ℕ = places_for (map f xs) current n added in
    All-weaker (λ v. at_least (lowest_placed f xs places) (f v) ≡ has_place (map f xs) places (f v)) (λ v. keeps_id k (f v) ≡ id_stays (map f xs) current n added (f v))
    (λ v d. ap₂ (λ i m. same_number (f v) i || at_least m (f v)) c e ∙ ap (λ b. same_number (f v) current || b) d)
    xs (lowest_decides f (λ v. has_place (map f xs) places (f v)) (λ x y l t. place_above (map f xs) places (f x) (f y) l t) xs)

-- the best so far, or the lowest of the others where that is lower
abbrev lower : Option ℤ → Option ℤ → Option ℤ
lower None m = m
lower (Some j) m = Some (least_of j m)

lower_none : (best : Option ℤ) → best ≡ lower best None
lower_none None = refl
lower_none (Some j) = refl

least_kept : (j i : ℤ) (m : Option ℤ) → le_z j i ≡ true → least_of j m ≡ int_min j (least_of i m)
least_kept j i None h = grind (arith, ints)
least_kept j i (Some k) h = grind (arith, ints)

least_taken : (j i : ℤ) (m : Option ℤ) → le_z j i ≡ false → least_of i m ≡ int_min j (least_of i m)
least_taken j i None h = grind (arith, ints)
least_taken j i (Some k) h = grind (arith, ints)

-- a fold in which the best so far gives way to a lower one that passes
module _ (test : ℤ → Bool) where
  abbrev pub better : Option ℤ → ℤ → Option ℤ
  better best i = cond (not (at_least best i) && test i) (Some i) best

  better_lower : (best : Option ℤ) (i : ℤ) (m : Option ℤ) → lower (better best i) m ≡ lower best (cond (test i) (Some (least_of i m)) m)
  better_lower None i m = go (test i)
    where
      go : (b : Bool) → lower (cond b (Some i) None) m ≡ cond b (Some (least_of i m)) m
      go true = refl
      go false = refl
  better_lower (Some j) i m = go (le_z j i) (test i) refl
    where
      go : (l b : Bool) → le_z j i ≡ l → lower (cond (not l && b) (Some i) (Some j)) m ≡ lower (Some j) (cond b (Some (least_of i m)) m)
      go true true h = ap Some (least_kept j i m h)
      go true false h = refl
      go false true h = ap Some (least_taken j i m h)
      go false false h = refl

  pub lowest_by_turns : {A : Type 0} (f : A → ℤ) (best : Option ℤ) (xs : List A) → fold better best (map f xs) ≡ lower best (lowest_id_where f (λ x. test (f x)) xs)
  lowest_by_turns f best [] = lower_none best
  lowest_by_turns f best (x ∷ xs) =
      lowest_by_turns f (better best (f x)) xs ∙ better_lower best (f x) (lowest_id_where f (λ y. test (f y)) xs) ∙ go (test (f x))
    where
      go : (b : Bool) → lower best (cond b (Some (least_of (f x) (lowest_id_where f (λ y. test (f y)) xs))) (lowest_id_where f (λ y. test (f y)) xs)) ≡ lower best (lowest (map f (cond b (x ∷ filter (λ y. test (f y)) xs) (filter (λ y. test (f y)) xs))))
      go true = refl
      go false = refl
