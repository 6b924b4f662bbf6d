use Rattle.std.proofs.Common.{◌≡◌, Ok, sym, refl, ap, ◌∙◌, subst}
use Rattle.property.specs.Meaning.{properties_of, room_of}
use Rattle.property.specs.Outcomes as property
use Rattle.property.specs.Outcomes.{answered, after_updates}
use Rattle.view.proofs.Readings.{reading}
use Rattle.view.specs.Steps.{with_properties}
use Rattle.view.specs.declared.view_update.ViewUpdate.TheVariants.{SetProperties}
use Rattle.view.specs.declared.view_metadata_builder.ViewMetadataBuilder.{ViewMetadataBuilder}
use Rattle.view.proofs.Outcomes.{left_by, went, unrecorded, noted, full_from}
use Rattle.view.proofs.Settings.{settings_refused, settings_kept, settings_unrecorded, settings_noted}
use Rattle.view.proofs.view_metadata_builder.ViewMetadataBuilder.set_properties.Goals as goal

pub returns-in_err-plan : goal.returns-in_err-plan
returns-in_err-plan g c clock =
    let G = reading g.S.Identified g.S.Numbered g.S.SchemaKind in
    let b = c.args.self.now in
    let f = property.fault_of c.in_err-plan.field-0.0 in
    left_by G _ b c.from_residual.result b f c.from_residual.ensures.1 refl (settings_refused G b c.args.updates.now clock f c.in_err-plan.ensures)

pub returns-then-not-branch : goal.returns-then-not-branch
returns-then-not-branch g c clock =
    let G = reading g.S.Identified g.S.Numbered g.S.SchemaKind in
    let b = c.args.self.now in
    went G _ b tt b refl (settings_kept G b c.args.updates.now clock (ap Ok (sym c.if-not-branch.true) ∙ c.in_ok-plan.ensures))

pub returns-in_err-record : goal.returns-in_err-record
returns-in_err-record g c clock =
    let G = reading g.S.Identified g.S.Numbered g.S.SchemaKind in
    let b = c.args.self.now in
    let ps = c.args.updates in
    let full = full_from _ c.record.result _ c.record.ensures.answer c.in_err-record.was in
    unrecorded G _ b (SetProperties ps) c.record.result c.record.ensures.answer b refl refl
    (settings_unrecorded G b ps.now clock (ap Ok (sym c.if-not-branch.false) ∙ c.in_ok-plan.ensures) (SetProperties ps) refl full.0)
    c.from_residual-in_err-record.result _ _ c.in_err-record.was c.from_residual-in_err-record.ensures.1 c.record.ensures.builder

pub returns : goal.returns
returns g c clock =
    let G = reading g.S.Identified g.S.Numbered g.S.SchemaKind in
    let b = c.args.self.now in
    let ps = c.args.updates in
    let set : answered (λ _. properties_of b.view.text.now c.set.new.self) c.set.result ≡ after_updates b.view.text.now ps.now b.view.properties =
    subst (λ (d : ViewMetadataBuilder g.row.S.Denot). answered (λ _. properties_of b.view.text.now c.set.new.self) c.set.result ≡ after_updates b.view.text.now ps.now d.view.properties)
    c.record.ensures.builder c.set.ensures.answer in
    noted G _ b (SetProperties ps) c.record.result c.record.ensures.answer (with_properties c.set.new.self b) refl refl
    (settings_noted G b ps.now clock (ap Ok (sym c.if-not-branch.false) ∙ c.in_ok-plan.ensures) (SetProperties ps) refl c.set.new.self c.set.result set (c.set.ensures.rest.room ∙ ap (λ d. room_of d.view.properties) c.record.ensures.builder))
    tt _ _ c.in_ok-record.was (λ j. with_properties c.set.new.self (c.record.ensures.builder j))
