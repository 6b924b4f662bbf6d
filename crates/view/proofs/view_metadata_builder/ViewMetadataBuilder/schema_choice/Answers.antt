use Rattle.std.proofs.Common.{true, not, Ok, Err, sym, ap, ◌∙◌, w32, rules}
use Rattle.std.proofs.lemmas.Int.{to_z-of_z}
use Rattle.model.specs.Ids.{is_id}
use Rattle.fault.specs.Meaning.{fault_of}
use Rattle.view.specs.Meaning.{model_of}
use Rattle.view.specs.Plans.{schema_given}
use Rattle.view.proofs.Readings.{reading}
use Rattle.view.proofs.Outcomes.{meant_by}
use Rattle.view.proofs.Schemas.{schema_held, schema_new}
use Rattle.view.proofs.view_metadata_builder.ViewMetadataBuilder.schema_choice.Goals as goal

pub returns-in-Some : goal.returns-in-Some
returns-in-Some g c =
    let G = reading g.S.Identified g.S.Numbered g.S.SchemaKind in
    let b = c.args.self.now in
    let z = to_z-of_z w32 c.in-Some.id (search rules) in
    (λ h. Ok (z h, not ((c.is_last.ensures ∙ ap (is_id b.last_added_schema_id) z) h)))
    ∙ (ap (schema_given (model_of G b)) (sym c.in-Some.is) ∙ schema_held G b c.args.schema.now (Ok c.in_ok-id.field-0) (schema_given (model_of G b)) c.in_ok-id.ensures)

pub returns-in_err-next_id-in-None : goal.returns-in_err-next_id-in-None
returns-in_err-next_id-in-None g c =
    let G = reading g.S.Identified g.S.Numbered g.S.SchemaKind in
    let b = c.args.self.now in
    let f = c.in_err-next_id-in-None.field-0.0 in
    meant_by _ f c.from_residual-in_err-next_id-in-None.ensures.1
    ∙ (schema_new G b c.args.schema.now g.met.S.SchemaKind.first (Err (fault_of f)) c.in_err-next_id-in-None.ensures
    ∙ (ap (schema_given (model_of G b)) (sym c.in-None.is) ∙ schema_held G b c.args.schema.now (Ok c.in_ok-id.field-0) (schema_given (model_of G b)) c.in_ok-id.ensures))

pub returns-in_ok-next_id-in-None : goal.returns-in_ok-next_id-in-None
returns-in_ok-next_id-in-None g c =
    let G = reading g.S.Identified g.S.Numbered g.S.SchemaKind in
    let b = c.args.self.now in
    let j = c.in_ok-next_id-in-None.field-0 in
    ap (λ i. Ok (i, true)) (to_z-of_z w32 j (search rules))
    ∙ (schema_new G b c.args.schema.now g.met.S.SchemaKind.first (Ok j) c.in_ok-next_id-in-None.ensures
    ∙ (ap (schema_given (model_of G b)) (sym c.in-None.is) ∙ schema_held G b c.args.schema.now (Ok c.in_ok-id.field-0) (schema_given (model_of G b)) c.in_ok-id.ensures))
