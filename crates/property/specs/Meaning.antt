-- What the code's properties mean. Assumes nothing.
use Rattle.std.specs.Prelude.{◌≡◌, ℕ, max, List, map, length, drop}
use Rattle.model.specs.Bytes.{Bytes}
use Rattle.model.specs.Version as model
use Rattle.text.specs.Properties.{property_of}
use Rattle.register.specs.Tables.{held_in, room}
use Rattle.property.specs.declared.property.Properties.{Properties}

-- the properties that the table holds
abbrev pub properties_of : Bytes → Properties → List model.Property
properties_of block ps = map (property_of block) (held_in ps.table)

-- how many it can hold
abbrev pub room_of : Properties → ℕ
room_of ps = room ps.table

-- past what the second table holds, both have the same records, and its count grows only with what it holds
pub record KeepsRest (ps qs : Properties) : Type 0 where
  pub room : room_of qs ≡ room_of ps
  pub rest : drop qs.table.held qs.table.slots.now ≡ drop qs.table.held ps.table.slots.now
  pub count : qs.table.held ≡ max ps.table.held (length (held_in qs.table))
