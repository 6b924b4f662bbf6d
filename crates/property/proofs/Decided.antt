-- What a plan answers, once the first tests passed, and what an accepted one says. Assumes nothing.
use Rattle.std.proofs.Common.{◌≡◌, ℕ, ◌-◌, ◌<◌, ◌≤◌, Bool, ◌&&◌, List, map, length, Ok, Err, arith}
use Rattle.std.proofs.lemmas.List.{length-map, length-take}
use Rattle.std.specs.List.{count_by, list_any}
use Rattle.std.proofs.lemmas.Bool.Decides.{nat_tests}
use Rattle.model.specs.Bytes.{Bytes}
use Rattle.model.specs.Version as model
use Rattle.model.specs.Refusals.{fault, limit_reached, properties_part}
use Rattle.model.specs.Edits.{put_properties, properties_after}
use Rattle.text.specs.Meaning.{sound}
use Rattle.text.specs.declared.property.Property.{Property}
use Rattle.register.specs.Tables.{held_in}
use Rattle.property.specs.declared.property.Properties.{Properties}
use Rattle.text.specs.Properties.{property_of}
use Rattle.property.specs.Meaning.{properties_of, room_of}
use Rattle.property.specs.Outcomes.{after_updates, planned, FirstTests}
use Rattle.property.proofs.Tested.{read_ok}
use Rattle.property.proofs.Effects.{is_new, differs, counted, changed}

module _ (block : Bytes) (updates : List Property) (t : Properties) where
  -- the properties with the updates put
  abbrev new : List model.Property
  new = put_properties (map (property_of block) updates) (properties_of block t)

  -- so many new keys, once the first tests passed
  module _ (added : ℕ) (tests : FirstTests block updates (Ok tt)) (count : added ≡ count_by (is_new (property_of block) (properties_of block t)) updates) where
    pub plan_full : room_of t - length (held_in t.table) < added → Err (fault limit_reached properties_part) ≡ planned block updates t
    plan_full h = grind (arith, nat_tests, counted (property_of block) updates (properties_of block t) tests.0, tests.1 (room_of t) (properties_of block t), length-map (held_in t.table) (property_of block))

    pub plan_fits : (b : Bool) → added ≤ room_of t - length (held_in t.table) → b ≡ list_any (differs (property_of block) (properties_of block t)) updates → Ok b ≡ planned block updates t
    plan_fits b h e =
        grind (arith, nat_tests, counted (property_of block) updates (properties_of block t) tests.0, changed (property_of block) updates (properties_of block t) tests.0, tests.1 (room_of t) (properties_of block t), length-map (held_in t.table) (property_of block), length-take t.table.held t.table.slots.now)

  -- a plan that was accepted: the list with the updates put has room
  pub accepted : {b : Bool} → Ok b ≡ planned block updates t → (after_updates block updates t ≡ Ok new) × (length new ≤ room_of t)
  unfolding properties_after
  accepted e = grind (arith, nat_tests, read_ok (λ (p : Property). sound block p.key && sound block p.value) (property_of block) updates)
