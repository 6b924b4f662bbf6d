use Rattle.std.proofs.Common.{count_by, sym, ap, ◌∙◌}
use Rattle.register.specs.Tables.{held_in}
use Rattle.view.specs.Finished.{adds_version}
use Rattle.view.proofs.Readings.{reading}
use Rattle.view.proofs.Builds.{additions_counted}
use Rattle.view.proofs.view_metadata_builder.ViewMetadataBuilder.num_added_versions.Goals as goal

pub returns : goal.returns
returns g c =
    c.num_adding.ensures ∙ (ap (count_by adds_version) c.items.ensures ∙ sym (additions_counted (reading g.S.Identified g.S.Numbered g.S.SchemaKind) c.args.self.now.view.text.now (held_in c.args.self.now.view.changes)))
