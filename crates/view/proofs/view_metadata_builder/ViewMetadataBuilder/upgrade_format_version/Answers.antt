use Rattle.view.proofs.Readings.{reading}
use Rattle.view.proofs.Starts.{format_upgraded}
use Rattle.view.proofs.view_metadata_builder.ViewMetadataBuilder.upgrade_format_version.Goals as goal

pub returns : goal.returns
returns g c clock =
    format_upgraded (reading g.S.Identified g.S.Numbered g.S.SchemaKind) c.args.self.now c.args.format_version clock c.check_format.result c.check_format.ensures
