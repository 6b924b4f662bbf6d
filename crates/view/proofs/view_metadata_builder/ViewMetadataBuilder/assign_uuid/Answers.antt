use Rattle.std.proofs.Common.{refl, ◌∙◌}
use Rattle.view.proofs.Readings.{reading}
use Rattle.view.specs.Steps.{with_uuid}
use Rattle.view.specs.declared.view_update.ViewUpdate.TheVariants.{AssignUuid}
use Rattle.view.proofs.Outcomes.{went, unrecorded, noted}
use Rattle.view.proofs.Settings.{same_arrays, uuid_kept, uuid_new}
use Rattle.view.proofs.view_metadata_builder.ViewMetadataBuilder.assign_uuid.Goals as goal

pub returns-then-eq : goal.returns-then-eq
returns-then-eq g c clock =
    let G = reading g.S.Identified g.S.Numbered g.S.SchemaKind in
    let b = c.args.self.now in
    went G _ b tt b refl (uuid_kept G b c.args.uuid clock (same_arrays c.args.uuid b.view.uuid _ c.eq.ensures ∙ c.if-eq.true))

pub returns-in_err-record : goal.returns-in_err-record
returns-in_err-record g c clock =
    let G = reading g.S.Identified g.S.Numbered g.S.SchemaKind in
    let b = c.args.self.now in
    unrecorded G _ b (AssignUuid c.args.uuid) c.record.result c.record.ensures.answer (with_uuid c.args.uuid b) refl refl
    (uuid_new G b c.args.uuid clock (same_arrays c.args.uuid b.view.uuid _ c.eq.ensures ∙ c.if-eq.false))
    c.from_residual.result _ _ c.in_err-record.was c.from_residual.ensures.1 c.record.ensures.builder

pub returns : goal.returns
returns g c clock =
    let G = reading g.S.Identified g.S.Numbered g.S.SchemaKind in
    let b = c.args.self.now in
    noted G _ b (AssignUuid c.args.uuid) c.record.result c.record.ensures.answer (with_uuid c.args.uuid b) refl refl
    (uuid_new G b c.args.uuid clock (same_arrays c.args.uuid b.view.uuid _ c.eq.ensures ∙ c.if-eq.false))
    tt _ _ c.in_ok-record.was (λ j. with_uuid c.args.uuid (c.record.ensures.builder j))
