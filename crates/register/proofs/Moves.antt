-- What a table holds, moved: its end to the front, and its last to a place before. Assumes nothing.
use Rattle.std.proofs.Common.{◌≡◌, ℕ, ◌+◌, ◌-◌, ◌<◌, ◌≤◌, min, false, List, [], ◌∷◌, ◌++◌, length, get_or, take, drop, set, sym, refl, ap, ◌∙◌, ap₂, subst, inl, inr, arith}
use lib.Seq.{paste}
use denote.Ref.{at_last}
use borrow.Rule.Slice.PartMut.{put_mid}
use Rattle.std.specs.List.{insert, between}
use Rattle.std.proofs.lemmas.Bool.{cases_lt, leb-false}
use Rattle.std.proofs.lemmas.Slice.{between_is}
use Rattle.std.proofs.lemmas.List.{append_assoc, length-append, same_lists, length_push, length-take, length-drop, length-set, get_or-take, get_or-drop, take_at, drop_at, take_all, drop_all, take-take, take-set, take-set-le, drop-drop, drop-set-lt, get_or-set_same}
use Rattle.std.proofs.lemmas.List.Edits.{between_more}
use Rattle.register.specs.declared.table.Table.{Table}
use Rattle.register.specs.Tables.{held_in, room, is_full, with_one_more, with_inserted, after_push, after_insert, kept_from}

-- what stands from b on and before e is what is kept: b is the start, or the end where the start is past it
same_part : {X : Type 0} (xs : List X) (held start e b : ℕ) → e ≡ min held (length xs) → b ≡ min start e → take (e - b) (drop b xs) ≡ drop start (take held xs)
same_part xs held start e b p q =
    same_lists _ _ (simp (length-take, length-drop) (omega arith)) λ k d h.
    let l : k < min (e - b) (length xs - b) = simp (length-take, length-drop) at h in
    let s : b ≡ start = omega arith in
    get_or-take (e - b) (drop b xs) k d (omega arith) ∙ (get_or-drop b xs k d
    ∙ (ap (λ m. get_or xs (m + k) d) s ∙ (sym (get_or-take held xs (start + k) d (omega arith)) ∙ sym (get_or-drop start (take held xs) k d))))

pub kept_is : {X : Type 0} (t : Table X) (start e b : ℕ) (xs : List X) → e ≡ min t.held (length t.slots.now) → b ≡ min start e → xs ≡ paste t.slots.now 0 (drop b t.slots.now) (e - b) →
    ◌≡◌ {A = Table X} (record { slots = at_last t.slots xs; held = e - b }) (kept_from start t)
kept_is t start e b xs p q r =
    let k = same_part t.slots.now t.held start e b p q in
    let n : e - b ≡ length (drop start (held_in t)) = simp (length-take, length-drop) (omega arith) in
    let z : 0 + (e - b) ≡ length (drop start (held_in t)) = omega arith in
    let s = r ∙ (ap (λ l. l ++ drop (0 + (e - b)) t.slots.now) k ∙ ap (λ m. drop start (held_in t) ++ drop m t.slots.now) z) in
    λ j. record { slots = at_last t.slots (s j); held = n j }

-- the last of a part, moved to its front
module _ {A : Type 0} (recs : List A) (held at : ℕ) (p : A) (below : at ≤ held) (inside : held < length recs) where
  rest : List A
  rest = drop at (take held recs)

  part_is : between at (held + 1) (set recs held p) ≡ drop at (take held recs) ++ p ∷ []
  part_is =
      between_more (set recs held p) at held p below (omega (arith, length-set recs held p))
      ∙ ap₂ (λ xs y. xs ++ y ∷ []) (between_is (set recs held p) at held ∙ ap (drop at) (take-set recs held p)) (get_or-set_same recs held p p inside)

  turned : (part after : List A) → part ≡ between at (held + 1) (set recs held p) → after ≡ drop (length part - 1) part ++ take (length part - 1) part → after ≡ p ∷ drop at (take held recs)
  turned part after e r =
      let m : part ≡ drop at (take held recs) ++ p ∷ [] = e ∙ part_is in
      let n : length (drop at (take held recs)) ≡ length part - 1 = omega (arith, ap length m, length_push (drop at (take held recs)) p) in
      r ∙ ap₂ ◌++◌ (ap (drop (length part - 1)) m ∙ drop_at (drop at (take held recs)) (p ∷ []) (length part - 1) n) (ap (take (length part - 1)) m ∙ take_at (drop at (take held recs)) (p ∷ []) (length part - 1) n)

  inserted_by_turning : (part after : List A) → part ≡ between at (held + 1) (set recs held p) → after ≡ drop (length part - 1) part ++ take (length part - 1) part →
      put_mid at (held + 1 - at) (set recs held p) after ≡ insert (take held recs) at p ++ drop (held + 1) recs
  inserted_by_turning part after e r =
      let front : take at (set recs held p) ≡ take at (take held recs) = take-set-le at recs held p below ∙ sym (take-take at held recs below) in
      let n : at + (held + 1 - at) ≡ held + 1 = omega arith in
      let back : drop (held + 1 - at) (drop at (set recs held p)) ≡ drop (held + 1) recs =
      drop-drop (held + 1 - at) at (set recs held p) ∙ (ap (λ m. drop m (set recs held p)) n ∙ drop-set-lt (held + 1) recs held p (omega arith)) in
      ap₂ ◌++◌ front (ap₂ ◌++◌ (turned part after e r) back)
      ∙ sym (append_assoc (take at (take held recs)) (p ∷ drop at (take held recs)) (drop (held + 1) recs))

-- past the end is the end
insert_within : {X : Type 0} (xs : List X) (at n : ℕ) (x : X) → n ≡ min at (length xs) → insert xs n x ≡ insert xs at x
insert_within xs at n x e =
    elim (cases_lt (length xs) at) [
      | inl l ↦ ap₂ (λ a b. a ++ x ∷ b) (take_all n xs (omega arith) ∙ sym (take_all at xs (omega arith))) (drop_all n xs (omega arith) ∙ sym (drop_all at xs (omega arith)))
      | inr l ↦ let m : n ≡ at = omega arith in ap (λ k. insert xs k x) m
    ]

-- the table after a push, its last moved to the place
abbrev Turned : {X : Type 0} → Table X → ℕ → X → Table X → Type 0
Turned {X} t at x u =
    (a : ℕ) (after : List X) → a ≡ min at (u.held - 1) →
    (let part = between a u.held u.slots.now in after ≡ drop (length part - 1) part ++ take (length part - 1) part) →
    ◌≡◌ {A = Table X} (record { slots = at_last u.slots (put_mid a (u.held - a) u.slots.now after); held = u.held }) (after_insert at x t)

turned_one_more : {X : Type 0} (t : Table X) (at : ℕ) (x : X) → is_full t ≡ false → Turned t at x (with_one_more t x)
turned_one_more t at x free a after e r =
    let inside : t.held < length t.slots.now = leb-false (room t) t.held free in
    let s = inserted_by_turning t.slots.now t.held a x (omega arith) inside _ after refl r ∙ ap (λ l. l ++ drop (t.held + 1) t.slots.now) (insert_within (held_in t) at a x (omega (arith, length-take t.held t.slots.now))) in
    rw free (λ j. record { slots = at_last t.slots (s j); held = t.held + 1 })

pub inserted_is : {X : Type 0} (t u : Table X) (at : ℕ) (x : X) → is_full t ≡ false → u ≡ after_push t x → Turned t at x u
inserted_is t u at x free e = subst (Turned t at x) (sym (e ∙ rw free)) (turned_one_more t at x free)

-- what the table then holds
pub held_inserted : {X : Type 0} (t : Table X) (at : ℕ) (x : X) → is_full t ≡ false → held_in (with_inserted at x t) ≡ insert (held_in t) at x
held_inserted t at x free =
    let inside : t.held < length t.slots.now = leb-false (room t) t.held free in
    take_at (insert (held_in t) at x) (drop (t.held + 1) t.slots.now) (t.held + 1) (simp (length-append, length-take, length-drop) (omega arith))
