-- What a table over lent memory holds, and what a push makes of it. Assumes nothing.
use Rattle.std.specs.Prelude.{ℕ, ◌+◌, Bool, cond, List, ◌++◌, length, take, drop, nat_le, slice_set}
use Rattle.std.specs.List.{insert}
use denote.Ref.{at_last}
use Rattle.register.specs.declared.table.Table.{Table}

module _ {X : Type 0} where
  -- what it holds: the first of its slots
  abbrev pub held_in : Table X → List X
  held_in t = take t.held t.slots.now

  -- how many it can hold
  abbrev pub room : Table X → ℕ
  room t = length t.slots.now

  -- every slot is in use
  abbrev pub is_full : Table X → Bool
  is_full t = nat_le (room t) t.held

  -- the table with x in the first free slot
  abbrev pub with_one_more : Table X → X → Table X
  with_one_more t x = record { slots = at_last t.slots (slice_set t.slots.now t.held x); held = t.held + 1 }

  -- the table after a push: as it was where it is full
  abbrev pub after_push : Table X → X → Table X
  after_push t x = cond (is_full t) t (with_one_more t x)

  -- the table with x at that place of what it holds, or last where it is past the end
  abbrev pub with_inserted : ℕ → X → Table X → Table X
  with_inserted at x t = record { slots = at_last t.slots (insert (held_in t) at x ++ drop (t.held + 1) t.slots.now); held = t.held + 1 }

  -- the table after an insert: as it was where it is full
  abbrev pub after_insert : ℕ → X → Table X → Table X
  after_insert at x t = cond (is_full t) t (with_inserted at x t)

  -- the list in the first slots, and the rest of the slots as they were
  abbrev pub moved_to_front : List X → Table X → Table X
  moved_to_front k t = record { slots = at_last t.slots (k ++ drop (length k) t.slots.now); held = length k }

  -- the table that holds only what it held from the start on
  abbrev pub kept_from : ℕ → Table X → Table X
  kept_from start t = moved_to_front (drop start (held_in t)) t
