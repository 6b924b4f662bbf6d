-- A property put where its key is found, or where it belongs, in a list whose elements mean properties. Assumes nothing.
use Rattle.std.proofs.Common.{◌≡◌, ℕ, suc, ◌+◌, ◌<◌, ◌≤◌, Bool, true, false, cond, not, List, [], ◌∷◌, map, length, get_or, take, set, is_some, Some, None, Option, sym, refl, ap, ◌∙◌, one-add, arith}
use Rattle.std.specs.List.{prefix_len, position, position_from, insert}
use lib.Seq.{take-set-lt}
use Rattle.std.proofs.lemmas.Bool.Decides.{nat_tests}
use Rattle.std.proofs.lemmas.List.{length-take, length-map, get_or-take}
use Rattle.std.proofs.lemmas.Iterator.Adapters.{position_from-zero}
use Rattle.std.proofs.lemmas.List.Quantifiers.{position-Some}
use Rattle.model.specs.Bytes.{Bytes, same_bytes, before}
use Rattle.model.specs.Version.{Property}
use Rattle.model.specs.Edits.{has_key, revalued, placed, put_property}
use Rattle.register.specs.declared.table.Table.{Table}
use Rattle.register.specs.Tables.{held_in, room, is_full, with_inserted, after_insert}
use Rattle.register.proofs.Moves.{held_inserted}
use Rattle.property.proofs.Puts.{has_look_up, length_put}

module _ {A : Type 0} (f : A → Property) where
  -- the element has the key
  abbrev has : Bytes → A → Bool
  has k x = same_bytes k (f x).key

  has_from : (k : Bytes) (i : ℕ) (xs : List A) → has_key k (map f xs) ≡ is_some (position_from (has k) i xs)
  has_from k i [] = refl
  has_from k i (x ∷ xs) = let r = has_from k (i + 1) xs in grind arith

  module _ (p : Property) where
    revalued_at : (xs : List A) (i : ℕ) (y d : A) → i < length xs → has p.key (get_or xs i d) ≡ true → ((k : ℕ) → k < i → has p.key (get_or xs k d) ≡ false) →
        f y ≡ record { key = (f (get_or xs i d)).key; value = p.value } → map f (set xs i y) ≡ revalued p (map f xs)
    revalued_at [] i y d l t h e = absurd (omega arith)
    revalued_at (x ∷ xs) Prim.Native.Nat.zero y d l t h e = grind arith
    revalued_at (x ∷ xs) (suc i) y d l t h e = let r = revalued_at xs i y d (omega arith) t (λ k m. h (suc k) (omega arith)) e in grind (arith, h 0 (omega arith))

    -- how many come before the first whose key comes after its key
    abbrev lower : List A → ℕ
    lower = prefix_len (λ x. not (before p.key (f x).key))

    placed_at : (xs : List A) (y : A) → f y ≡ p → map f (insert xs (lower xs) y) ≡ placed p (map f xs)
    placed_at [] y e = ap (λ t. t ∷ []) e
    placed_at (x ∷ xs) y e = by (before p.key (f x).key) (placed_at xs y e)
      where
        by : (b : Bool) → map f (insert xs (lower xs) y) ≡ placed p (map f xs) → map f (insert (x ∷ xs) (cond (not b) (1 + lower xs) 0) y) ≡ cond b (p ∷ f x ∷ map f xs) (f x ∷ placed p (map f xs))
        by true r = ap (λ q. q ∷ f x ∷ map f xs) e
        by false r = rw one-add (ap (λ qs. f x ∷ qs) r)

    -- what a search of a table by the bytes of its key found
    module _ (k : Bytes) (same : k ≡ p.key) (t : Table A) (o : Option ℕ) (search' : o ≡ position (has k) (held_in t)) where
      found : o ≡ position (has p.key) (held_in t)
      found = search' ∙ ap (λ b. position (has b) (held_in t)) same

      is_held : has_key p.key (map f (held_in t)) ≡ is_some o
      is_held = has_from p.key 0 (held_in t) ∙ ap is_some (sym (found ∙ position_from-zero (has p.key) (held_in t)))

      -- its own record is rewritten
      pub put_over : (i : ℕ) (y d : A) → o ≡ Some i → f y ≡ record { key = (f (get_or t.slots.now i d)).key; value = p.value } → map f (take t.held (set t.slots.now i y)) ≡ put_property p (map f (held_in t))
      put_over i y d e v =
          let s = position-Some (has p.key) (held_in t) i d (sym found ∙ e) in
          let inside : i < t.held = omega (arith, s.0, length-take t.held t.slots.now) in
          ap (map f) (take-set-lt t.held t.slots.now i y inside)
          ∙ rw (is_held ∙ ap is_some e) (revalued_at (held_in t) i y d s.0 s.1 s.2 (v ∙ ap (λ x. record { key = (f x).key; value = p.value }) (sym (get_or-take t.held t.slots.now i d inside))))

      module _ (none : o ≡ None) where
        new_key : has_key p.key (map f (held_in t)) ≡ false
        new_key = is_held ∙ ap is_some none

        -- there is a free slot, since the list with one more has room
        pub has_slot : length (put_property p (map f (held_in t))) ≤ room t → is_full t ≡ false
        has_slot h = grind (arith, nat_tests, length_put p (map f (held_in t)), has_look_up p.key (map f (held_in t)), new_key, length-map (held_in t) f, length-take t.held t.slots.now)

        -- it gets a new record in its place
        pub put_between : (u : Table A) (at : ℕ) (y : A) → is_full t ≡ false → at ≡ prefix_len (λ x. not (before k (f x).key)) (held_in t) → f y ≡ p → u ≡ after_insert at y t → map f (held_in u) ≡ put_property p (map f (held_in t))
        put_between u at y free l v e =
            let w : u ≡ with_inserted at y t = e ∙ rw free in
            ap (λ (d : Table A). map f (held_in d)) w
            ∙ (ap (map f) (held_inserted t at y free) ∙ (ap (λ n. map f (insert (held_in t) n y)) (l ∙ ap (λ b. prefix_len (λ x. not (before b (f x).key)) (held_in t)) same) ∙ (placed_at (held_in t) y v ∙ rw new_key)))
