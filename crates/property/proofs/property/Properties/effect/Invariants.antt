use Rattle.std.proofs.Common.{◌≡◌, take}
use Rattle.std.specs.List.{count_by, list_any}
use Rattle.text.specs.Properties.{property_of}
use Rattle.property.specs.Meaning.{properties_of}
use Rattle.property.proofs.Effects.{is_new, differs}
use Rattle.property.proofs.property.Properties.effect.Given as goal

abbrev pub invariant-loop-p : goal.invariant-loop-p
invariant-loop-p l = record {
  new_keys : l.effect.new_keys ≡ count_by (is_new (property_of l.block) (properties_of l.block l.self)) (take l.p-index l.updates);
  changes : l.effect.changes ≡ list_any (differs (property_of l.block) (properties_of l.block l.self)) (take l.p-index l.updates);
}
