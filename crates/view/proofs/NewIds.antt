-- The answers of a register, seen through what its things mean, with what follows them. Assumes nothing.
use Rattle.std.proofs.Common.{◌≡◌, ℕ, Bool, true, false, cond, List, map, ℤ, Some, None, Ok, Err, Option, Result, sym, refl, ap, ◌∙◌}
use mathlib.Core.List.{map-map}
use Rattle.model.specs.Ids.{next_id, ids_used_up, lowest_id_where}
use Rattle.model.specs.Refusals.{Part, Fault, fault, refuse, refuse_with, then, full, no_id_left, limit_reached}
use Rattle.register.specs.declared.table.Table.{Table}
use Rattle.register.specs.declared.fault.RegisterFault.{RegisterFault}
use Rattle.register.specs.declared.fault.RegisterFault.TheVariants.{NoIdLeft, Full}
use Rattle.register.specs.Tables.{held_in, room, is_full}
use Rattle.view.specs.Meaning.{given}
use Rattle.view.proofs.Recording.{full_is}
use Rattle.view.proofs.Mapped.{lowest_mapped}

-- what follows two tests
pub after_two : {A B : Type 0} (p q : Bool) (d e : Fault) (a : A) (k : A → Result B Fault) → then (refuse p d (refuse q e (Ok a))) k ≡ refuse p d (refuse q e (k a))
after_two true q d e a k = refl
after_two false true d e a k = refl
after_two false false d e a k = refl

-- what follows a thing's own tests
after_own : {A B : Type 0} (part : Part) (v : Option ℕ) (a : A) (k : A → Result B Fault) → then (refuse_with part v (Ok a)) k ≡ refuse_with part v (k a)
after_own part (Some n) a k = refl
after_own part None a k = refl

-- an id that a register gives, by the tests before it
abbrev numbered : Bool → Bool → ℤ → Result ℤ RegisterFault
numbered used no_room j = cond used (Err NoIdLeft) (cond no_room (Err Full) (Ok j))

by_tests : (part : Part) (used no_room : Bool) (j : ℤ) → given part (numbered used no_room j) ≡ refuse used (fault no_id_left part) (refuse no_room (fault limit_reached part) (Ok j))
by_tests part true no_room j = refl
by_tests part false true j = refl
by_tests part false false j = refl

-- where an id is given, a slot is free
pub free_slot : (part : Part) (used no_room : Bool) (i j : ℤ) → Ok i ≡ given part (numbered used no_room j) → no_room ≡ false
free_slot part true no_room i j e = absurd (cc)
free_slot part false true i j e = absurd (cc)
free_slot part false false i j e = refl

module _ {X Y B : Type 0} (f : X → Y) (id_of : Y → ℤ) (part : Part) where
  -- what follows the search of a register for the same content
  pub after_held : (test : Y → Bool) (xs : List X) (v : Option ℕ) (r : Result (Option ℤ) Fault) (k : Option ℤ → Result B Fault) →
      r ≡ refuse_with part v (Ok (lowest_id_where (λ x. id_of (f x)) (λ x. test (f x)) xs)) → then r k ≡ refuse_with part v (k (lowest_id_where id_of test (map f xs)))
  after_held test xs v r k e =
      ap (λ z. then z k) e ∙ (after_own part v (lowest_id_where (λ x. id_of (f x)) (λ x. test (f x)) xs) k ∙ ap (λ o. refuse_with part v (k o)) (sym (lowest_mapped f id_of test xs)))

  -- what follows the id that a register gives
  pub after_given : (t : Table X) (first : ℤ) (r : Result ℤ Fault) (k : ℤ → Result B Fault) →
      r ≡ given part (numbered (ids_used_up (map (λ x. id_of (f x)) (held_in t))) (is_full t) (next_id first (map (λ x. id_of (f x)) (held_in t)))) →
      then r k
      ≡ refuse (ids_used_up (map id_of (map f (held_in t)))) (fault no_id_left part) (refuse (full (room t) (map f (held_in t))) (fault limit_reached part) (k (next_id first (map id_of (map f (held_in t))))))
  after_given t first r k e =
      let ids : map (λ x. id_of (f x)) (held_in t) ≡ map id_of (map f (held_in t)) = sym (map-map id_of f (held_in t)) in
      let no_room : is_full t ≡ full (room t) (map f (held_in t)) = sym (full_is f t) in
      ap (λ z. then z k) (e ∙ by_tests part (ids_used_up (map (λ x. id_of (f x)) (held_in t))) (is_full t) (next_id first (map (λ x. id_of (f x)) (held_in t))))
      ∙ (after_two (ids_used_up (map (λ x. id_of (f x)) (held_in t))) (is_full t) (fault no_id_left part) (fault limit_reached part) (next_id first (map (λ x. id_of (f x)) (held_in t))) k
      ∙ (λ h. refuse (ids_used_up (ids h)) (fault no_id_left part) (refuse (no_room h) (fault limit_reached part) (k (next_id first (ids h))))))
