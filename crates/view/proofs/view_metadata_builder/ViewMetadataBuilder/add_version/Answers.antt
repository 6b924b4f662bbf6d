use Rattle.std.proofs.Common.{Some, Ok, Err, sym, refl, ap, ◌∙◌, w32, rules}
use Rattle.std.proofs.lemmas.Int.{to_z-of_z}
use Rattle.model.specs.Edits.{reuse_or_add_version}
use Rattle.version.specs.Meaning.{version_in}
use Rattle.fault.specs.Meaning.{fault_of}
use Rattle.view.specs.Meaning.{model_of}
use Rattle.view.proofs.Readings.{reading}
use Rattle.view.proofs.Outcomes.{left_on, redefined}
use Rattle.view.proofs.NewVersions.{version_added_by}
use Rattle.view.proofs.view_metadata_builder.ViewMetadataBuilder.add_version.Goals as goal

pub returns-in_err-id-clause-did : goal.returns-in_err-id-clause-did
returns-in_err-id-clause-did g c clock =
    let G = reading g.S.Identified g.S.Numbered g.S.SchemaKind in
    let b = c.args.self.now in
    let f = c.in_err-id.field-0.0 in
    left_on G _ b c.from_residual.result b f c.from_residual.ensures.1 refl (sym (version_added_by G b c.args.version clock (Err (fault_of f)) c.in_err-id.ensures))

pub returns-in-Some-clause-did : goal.returns-in-Some-clause-did
returns-in-Some-clause-did g c clock =
    let G = reading g.S.Identified g.S.Numbered g.S.SchemaKind in
    let b = c.args.self.now in
    redefined G _ b c.reuse_version.result _ c.reuse_version.ensures.did
    (ap (reuse_or_add_version (model_of G b) (version_in b.view.text.now c.args.version)) (ap Some (to_z-of_z w32 c.in-Some.id (search rules)) ∙ sym c.in-Some.is)
    ∙ version_added_by G b c.args.version clock (Ok c.in_ok-id.field-0) c.in_ok-id.ensures)

pub returns-in-None-clause-did : goal.returns-in-None-clause-did
returns-in-None-clause-did g c clock =
    let G = reading g.S.Identified g.S.Numbered g.S.SchemaKind in
    let b = c.args.self.now in
    redefined G _ b c.enter_version.result _ c.enter_version.ensures.did
    (ap (reuse_or_add_version (model_of G b) (version_in b.view.text.now c.args.version)) (sym c.in-None.is) ∙ version_added_by G b c.args.version clock (Ok c.in_ok-id.field-0) c.in_ok-id.ensures)
