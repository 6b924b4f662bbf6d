use Rattle.std.proofs.Common.{true, not, Ok, Err, sym, refl, ap, ◌∙◌, w32, rules}
use Rattle.std.proofs.lemmas.Int.{to_z-of_z}
use Rattle.model.specs.Ids.{is_id}
use Rattle.fault.specs.Meaning.{fault_of}
use Rattle.version.specs.Meaning.{version_in}
use Rattle.view.specs.Meaning.{model_of}
use Rattle.view.specs.Plans.{version_given}
use Rattle.view.proofs.Readings.{reading}
use Rattle.view.proofs.Outcomes.{meant_by}
use Rattle.view.proofs.NewVersions.{version_held, version_new}
use Rattle.view.proofs.view_metadata_builder.ViewMetadataBuilder.version_choice.Goals as goal

pub returns-in-Some : goal.returns-in-Some
returns-in-Some g c =
    let G = reading g.S.Identified g.S.Numbered g.S.SchemaKind in
    let b = c.args.self.now in
    let v = c.args.version.now in
    let z = to_z-of_z w32 c.in-Some.id (search rules) in
    (λ h. Ok (z h, not ((c.is_last.ensures ∙ ap (is_id b.last_added_version_id) z) h)))
    ∙ (ap (version_given (model_of G b) (version_in b.view.text.now v)) (sym c.in-Some.is) ∙ version_held G b v (Ok c.in_ok-id.field-0) (version_given (model_of G b) (version_in b.view.text.now v)) c.in_ok-id.ensures)

pub returns-in_err-require_fresh : goal.returns-in_err-require_fresh
returns-in_err-require_fresh g c =
    let G = reading g.S.Identified g.S.Numbered g.S.SchemaKind in
    let b = c.args.self.now in
    let v = c.args.version.now in
    let f = c.in_err-require_fresh.field-0.0 in
    meant_by _ f c.from_residual-in_err-require_fresh.ensures.1
    ∙ (version_new G b v (Err (fault_of f)) _ c.in_err-require_fresh.ensures refl
    ∙ (ap (version_given (model_of G b) (version_in b.view.text.now v)) (sym c.in_default.is) ∙ version_held G b v (Ok c.in_ok-id.field-0) (version_given (model_of G b) (version_in b.view.text.now v)) c.in_ok-id.ensures))

pub returns-in_err-next_id : goal.returns-in_err-next_id
returns-in_err-next_id g c =
    let G = reading g.S.Identified g.S.Numbered g.S.SchemaKind in
    let b = c.args.self.now in
    let v = c.args.version.now in
    let f = c.in_err-next_id.field-0.0 in
    meant_by _ f c.from_residual-in_err-next_id.ensures.1
    ∙ (version_new G b v (Ok tt) (Err (fault_of f)) c.in_ok-require_fresh.ensures c.in_err-next_id.ensures
    ∙ (ap (version_given (model_of G b) (version_in b.view.text.now v)) (sym c.in_default.is) ∙ version_held G b v (Ok c.in_ok-id.field-0) (version_given (model_of G b) (version_in b.view.text.now v)) c.in_ok-id.ensures))

pub returns : goal.returns
returns g c =
    let G = reading g.S.Identified g.S.Numbered g.S.SchemaKind in
    let b = c.args.self.now in
    let v = c.args.version.now in
    ap (λ i. Ok (i, true)) (to_z-of_z w32 c.in_ok-next_id.field-0 (search rules))
    ∙ (version_new G b v (Ok tt) (Ok c.in_ok-next_id.field-0) c.in_ok-require_fresh.ensures c.in_ok-next_id.ensures
    ∙ (ap (version_given (model_of G b) (version_in b.view.text.now v)) (sym c.in_default.is) ∙ version_held G b v (Ok c.in_ok-id.field-0) (version_given (model_of G b) (version_in b.view.text.now v)) c.in_ok-id.ensures))
