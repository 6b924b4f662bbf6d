-- What the calls on properties answer, in the words of the model. Assumes nothing.
use Rattle.std.specs.Prelude.{◌≡◌, ℕ, Bool, not, List, map, None, Ok, Err, Result}
use Rattle.model.specs.Bytes.{Bytes, same_list}
use Rattle.model.specs.Version as model
use Rattle.model.specs.Refusals.{Fault, fault, refuse, over, then, bad_text, malformed, negative_history_size, limit_reached, properties_part}
use Rattle.model.specs.Edits.{out_of_order, put_properties, properties_after}
use Rattle.text.specs.declared.property.Property.{Property}
use Rattle.property.specs.declared.property.Properties.{Properties}
use Rattle.property.specs.declared.property.PropertyRefusal.{PropertyRefusal}
use Rattle.property.specs.declared.property.PropertyRefusal.TheVariants.{TooMany, BadText, Malformed, NegativeHistorySize}
use Rattle.property.specs.declared.property.PropertyFault.{PropertyFault}
use Rattle.text.specs.Properties.{property_of, property_in}
use Rattle.property.specs.Meaning.{properties_of, room_of}

-- the number of a refusal
abbrev pub number_of : PropertyRefusal → ℕ
number_of TooMany = limit_reached
number_of BadText = bad_text
number_of Malformed = malformed
number_of NegativeHistorySize = negative_history_size

-- the fault, in the part of properties
abbrev pub fault_of : PropertyFault → Fault
fault_of f = record { number = number_of f.refusal; part = properties_part; position = f.position }

-- an answer, with what an accepted call gives
abbrev pub answered : {A B : Type 0} → (A → B) → Result A PropertyFault → Result B Fault
answered gives (Ok a) = Ok (gives a)
answered gives (Err f) = Err (fault_of f)

-- the properties after the updates are set
abbrev pub after_updates : Bytes → List Property → Properties → Result (List model.Property) Fault
after_updates block updates t = properties_after (room_of t) (map (property_in block) updates) (properties_of block t)

-- whether the updates change a property
abbrev pub planned : Bytes → List Property → Properties → Result Bool Fault
planned block updates t = then (after_updates block updates t) λ new. Ok (not (same_list model.same_property new (properties_of block t)))

-- the properties, refused where there is no room for them
abbrev pub within : ℕ → List model.Property → Result (List model.Property) Fault
within room ps = refuse (over room ps) (fault limit_reached properties_part) (Ok ps)

-- the tests that need no table: whatever it holds and has room for, they refuse, or only its room is left to test
abbrev pub FirstTests : Bytes → List Property → Result (Unit {0}) PropertyFault → Type 0
FirstTests block updates (Ok u) =
    (out_of_order (map (property_of block) updates) ≡ None)
    × ((room : ℕ) (held : List model.Property) → properties_after room (map (property_in block) updates) held ≡ within room (put_properties (map (property_of block) updates) held))
FirstTests block updates (Err f) = (room : ℕ) (held : List model.Property) → properties_after room (map (property_in block) updates) held ≡ Err (fault_of f)
