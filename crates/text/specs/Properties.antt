-- What a key and its value mean: the property that the model has. Assumes nothing.
use Rattle.std.specs.Prelude.{Bool, cond, ◌&&◌, Some, None, Option}
use Rattle.model.specs.Bytes.{Bytes}
use Rattle.model.specs.Version as model
use Rattle.text.specs.Meaning.{bytes_of, sound}
use Rattle.text.specs.declared.property.Property.{Property}

-- a property held
abbrev pub property_of : Bytes → Property → model.Property
property_of block p = record { key = bytes_of block p.key; value = bytes_of block p.value }

-- both its texts are sound
abbrev pub sound_property : Bytes → Property → Bool
sound_property block p = sound block p.key && sound block p.value

-- a property handed in: none where one of its texts is not sound
abbrev pub property_in : Bytes → Property → Option model.Property
property_in block p = cond (sound_property block p) (Some (property_of block p)) None
