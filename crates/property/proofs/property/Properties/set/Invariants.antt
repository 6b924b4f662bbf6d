use Rattle.std.proofs.Common.{◌≡◌, map, drop}
use Rattle.model.specs.Edits.{put_properties}
use Rattle.text.specs.Properties.{property_of}
use Rattle.property.specs.Meaning.{properties_of, KeepsRest}
use Rattle.property.proofs.property.Properties.set.Given as goal

abbrev pub invariant-loop-p : goal.invariant-loop-p
invariant-loop-p l = record {
  left : put_properties (map (property_of l.block) (drop l.p-index l.updates)) (properties_of l.block l.self) ≡ put_properties (map (property_of l.block) l.updates) (properties_of l.block l.initial.self);
  rest : KeepsRest l.initial.self l.self;
}
