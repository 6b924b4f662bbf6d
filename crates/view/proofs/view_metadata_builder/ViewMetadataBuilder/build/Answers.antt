use Rattle.view.specs.Meaning.{model_of}
use Rattle.view.proofs.Readings.{reading}
use Rattle.view.proofs.Builds.{built_has_room}
use Rattle.view.proofs.view_metadata_builder.ViewMetadataBuilder.build.Goals as goal

pub finish-requires : goal.finish-requires
finish-requires g c = built_has_room (model_of (reading g.S.Identified g.S.Numbered g.S.SchemaKind) c.args.self) _ c.in_default.ensures
