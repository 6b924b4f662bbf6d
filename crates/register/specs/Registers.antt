-- What a register of numbered things answers, and what entering a thing makes of it. Assumes nothing.
use Rattle.std.specs.Prelude.{ℕ, Bool, cond, List, map, ℤ, Some, None, Ok, Err, Option, Result}
use Rattle.model.specs.Ids.{lowest_id_where, next_id, ids_used_up}
use Rattle.register.specs.declared.fault.RegisterFault.{RegisterFault}
use Rattle.register.specs.declared.fault.RegisterFault.TheVariants.{NoIdLeft, Full}
use Rattle.register.specs.declared.register.Register.{Register}
use Rattle.register.specs.declared.table.Table.{Table}
use Rattle.register.specs.Tables.{held_in, is_full, after_push}

-- the register after a push
abbrev pub pushed : {X : Type 0} → X → Register X → Register X
pushed x r = record { table = after_push r.table x }

-- what a kind of numbered things states: the id of a thing and its copy under another, the first id, and over a text block its content and verdict; and contents and their test
abbrev pub Numbering : Type 0 → Type 1
Numbering X = record {
  named : X → ℤ;
  initial : ℤ;
  Content : Type 0;
  content : List ℕ → X → Content;
  alike : Content → Content → Bool;
  verdict : List ℕ → X → Option ℕ;
  copied : ℤ → X → X;
}

module _ {X : Type 0} (n : Numbering X) where
  -- the lowest id of those held that have the content of x
  abbrev pub same_id : List ℕ → X → List X → Option ℤ
  same_id block x held = lowest_id_where n.named (λ t. n.alike (n.content block t) (n.content block x)) held

  -- the ids held
  abbrev pub held_ids : Table X → List ℤ
  held_ids t = map n.named (held_in t)

  -- the id that a new thing gets: none where the highest possible is in use, or no slot is free
  abbrev pub new_id : Table X → Result ℤ RegisterFault
  new_id t = cond (ids_used_up (held_ids t)) (Err NoIdLeft) (cond (is_full t) (Err Full) (Ok (next_id n.initial (held_ids t))))

  -- under a new id x is pushed, and a fault changes nothing
  abbrev pub added : X → Register X → Result ℤ RegisterFault → Result ℤ RegisterFault × Register X
  added x r (Ok j) = (Ok j, pushed (n.copied j x) r)
  added x r (Err f) = (Err f, r)

  -- where the same is held nothing changes
  abbrev pub kept_or_added : X → Register X → Option ℤ → Result ℤ RegisterFault × Register X
  kept_or_added x r (Some j) = (Ok j, r)
  kept_or_added x r None = added x r (new_id r.table)

  -- entering x: the answer, and the register after
  abbrev pub entered : List ℕ → X → Register X → Result ℤ RegisterFault × Register X
  entered block x r = kept_or_added x r (same_id block x (held_in r.table))
