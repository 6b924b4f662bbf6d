use Rattle.std.proofs.Common.{sym, refl, ap, ◌∙◌, w32}
use Rattle.std.proofs.lemmas.Int.{to_z-of_z}
use Rattle.model.specs.Ids.{is_id}
use Rattle.version.specs.Meaning.{renumbered}
use Rattle.view.proofs.Readings.{reading}
use Rattle.view.specs.Steps.{with_last_version}
use Rattle.view.specs.declared.view_update.ViewUpdate.TheVariants.{AddViewVersion}
use Rattle.view.proofs.Outcomes.{unrecorded, noted}
use Rattle.view.proofs.NewVersions.{version_noted}
use Rattle.view.proofs.view_metadata_builder.ViewMetadataBuilder.reuse_version.Goals as goal

pub returns-in_err-record-clause-did : goal.returns-in_err-record-clause-did
returns-in_err-record-clause-did g c =
    let G = reading g.S.Identified g.S.Numbered g.S.SchemaKind in
    let b = c.args.self.now in
    let z = to_z-of_z w32 c.args.id c.ranges.id in
    unrecorded G _ b (AddViewVersion c.with_id.result) c.record.result c.record.ensures.answer (with_last_version c.args.id b) refl refl
    (version_noted G b c.args.version c.args.id c.with_id.result
    (ap (is_id b.last_added_version_id) (sym z) ∙ (sym c.is_last.ensures ∙ c.if-is_last.false))
    (c.with_id.ensures ∙ ap (λ j. renumbered j c.args.version) z))
    c.from_residual.result _ _ c.in_err-record.was c.from_residual.ensures.1 c.record.ensures.builder

pub returns-clause-did : goal.returns-clause-did
returns-clause-did g c =
    let G = reading g.S.Identified g.S.Numbered g.S.SchemaKind in
    let b = c.args.self.now in
    let z = to_z-of_z w32 c.args.id c.ranges.id in
    noted G _ b (AddViewVersion c.with_id.result) c.record.result c.record.ensures.answer (with_last_version c.args.id b) refl refl
    (version_noted G b c.args.version c.args.id c.with_id.result
    (ap (is_id b.last_added_version_id) (sym z) ∙ (sym c.is_last.ensures ∙ c.if-is_last.false))
    (c.with_id.ensures ∙ ap (λ j. renumbered j c.args.version) z))
    _ _ _ c.in_ok-record.was (λ j. with_last_version (z j) (c.record.ensures.builder j))
