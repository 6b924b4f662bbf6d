use Rattle.std.proofs.Common.{Some, Ok, Err, sym, refl, ap, ◌∙◌, w32, rules}
use Rattle.std.proofs.lemmas.Int.{to_z-of_z}
use Rattle.model.specs.Edits.{reuse_or_add_schema}
use Rattle.view.specs.Meaning.{schema_in}
use Rattle.fault.specs.Meaning.{fault_of}
use Rattle.view.specs.Meaning.{model_of}
use Rattle.view.proofs.Readings.{reading}
use Rattle.view.proofs.Outcomes.{left_on, redefined}
use Rattle.view.proofs.Schemas.{schema_added_by}
use Rattle.view.proofs.view_metadata_builder.ViewMetadataBuilder.add_schema.Goals as goal

pub returns-in_err-id-clause-did : goal.returns-in_err-id-clause-did
returns-in_err-id-clause-did g c clock =
    let G = reading g.S.Identified g.S.Numbered g.S.SchemaKind in
    let b = c.args.self.now in
    let f = c.in_err-id.field-0.0 in
    left_on G _ b c.from_residual.result b f c.from_residual.ensures.1 refl (sym (schema_added_by G b c.args.schema clock (Err (fault_of f)) c.in_err-id.ensures))

pub returns-in-Some-clause-did : goal.returns-in-Some-clause-did
returns-in-Some-clause-did g c clock =
    let G = reading g.S.Identified g.S.Numbered g.S.SchemaKind in
    let b = c.args.self.now in
    redefined G _ b c.reuse_schema.result _ c.reuse_schema.ensures.did
    (ap (reuse_or_add_schema (model_of G b) (schema_in G b.view.text.now c.args.schema)) (ap Some (to_z-of_z w32 c.in-Some.id (search rules)) ∙ sym c.in-Some.is)
    ∙ schema_added_by G b c.args.schema clock (Ok c.in_ok-id.field-0) c.in_ok-id.ensures)

pub returns-in-None-clause-did : goal.returns-in-None-clause-did
returns-in-None-clause-did g c clock =
    let G = reading g.S.Identified g.S.Numbered g.S.SchemaKind in
    let b = c.args.self.now in
    redefined G _ b c.enter_schema.result _ c.enter_schema.ensures.did
    (ap (reuse_or_add_schema (model_of G b) (schema_in G b.view.text.now c.args.schema)) (sym c.in-None.is) ∙ schema_added_by G b c.args.schema clock (Ok c.in_ok-id.field-0) c.in_ok-id.ensures)
