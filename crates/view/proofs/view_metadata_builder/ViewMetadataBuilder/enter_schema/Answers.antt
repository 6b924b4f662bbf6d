use Rattle.std.proofs.Common.{Ok, Err, refl, ap, ◌∙◌, w32, rules}
use Rattle.std.proofs.lemmas.Int.{to_z-of_z}
use Rattle.register.specs.Registers.{pushed}
use Rattle.fault.specs.Meaning.{fault_of}
use Rattle.view.proofs.Readings.{reading}
use Rattle.view.specs.Steps.{with_schemas, with_last_schema}
use Rattle.view.proofs.Outcomes.{left_on, unrecorded, noted}
use Rattle.view.proofs.Schemas.{copied_in, not_entered, entered_noted}
use Rattle.view.proofs.view_metadata_builder.ViewMetadataBuilder.enter_schema.Goals as goal

pub returns-in_err-id-clause-did : goal.returns-in_err-id-clause-did
returns-in_err-id-clause-did g c =
    let G = reading g.S.Identified g.S.Numbered g.S.SchemaKind in
    let b = c.args.self.now in
    left_on G _ b c.from_residual.result b c.in_err-id.field-0.0 c.from_residual.ensures.1 refl
    (not_entered G b c.args.schema g.met.S.SchemaKind.first (Err (fault_of c.in_err-id.field-0.0)) c.in_err-id.ensures (fault_of c.in_err-id.field-0.0) refl)

pub returns-in_err-record-clause-did : goal.returns-in_err-record-clause-did
returns-in_err-record-clause-did g c =
    let G = reading g.S.Identified g.S.Numbered g.S.SchemaKind in
    let b = c.args.self.now in
    let y = c.with_id-stored.result in
    let j = c.in_ok-id.id in
    let z = to_z-of_z w32 j (search rules) in
    unrecorded G _ b _ c.record.result c.record.ensures.answer (with_last_schema j (with_schemas (pushed y b.view.schemas) b)) refl refl
    (entered_noted G b c.args.schema g.met.S.SchemaKind.first (Ok j) c.in_ok-id.ensures j y _ refl
    (copied_in G b c.args.schema g.met.S.Lawful.renamed g.met.S.Lawful.contents g.met.S.Lawful.verdicts g.met.S.SchemaKind.part y j (c.with_id-stored.ensures ∙ ap (λ i. g.S.Numbered.copied i c.args.schema) z))
    (to_z-of_z w32 c.highest_field_id.result (search rules) ∙ c.highest_field_id.ensures))
    c.from_residual-in_err-record.result _ _ c.in_err-record.was c.from_residual-in_err-record.ensures.1 c.record.ensures.builder

pub returns-clause-did : goal.returns-clause-did
returns-clause-did g c =
    let G = reading g.S.Identified g.S.Numbered g.S.SchemaKind in
    let b = c.args.self.now in
    let y = c.with_id-stored.result in
    let j = c.in_ok-id.id in
    let z = to_z-of_z w32 j (search rules) in
    noted G _ b _ c.record.result c.record.ensures.answer (with_last_schema j (with_schemas (pushed y b.view.schemas) b)) refl refl
    (entered_noted G b c.args.schema g.met.S.SchemaKind.first (Ok j) c.in_ok-id.ensures j y _ refl
    (copied_in G b c.args.schema g.met.S.Lawful.renamed g.met.S.Lawful.contents g.met.S.Lawful.verdicts g.met.S.SchemaKind.part y j (c.with_id-stored.ensures ∙ ap (λ i. g.S.Numbered.copied i c.args.schema) z))
    (to_z-of_z w32 c.highest_field_id.result (search rules) ∙ c.highest_field_id.ensures))
    _ _ _ c.in_ok-record.was
    (λ h. with_last_schema (z h) (with_schemas ((c.push.ensures.register ∙ ap (λ t. pushed y t.view.schemas) c.record.ensures.builder) h) (c.record.ensures.builder h)))
