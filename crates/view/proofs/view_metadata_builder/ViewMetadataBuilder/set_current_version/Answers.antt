use Rattle.std.proofs.Common.{sym, refl, ap, ◌∙◌, w32, w64, rules}
use Rattle.std.proofs.lemmas.Int.{to_z-of_z}
use Rattle.model.specs.State.{add_version, set_current_version, set_current_version_id}
use Rattle.model.specs.Ids.{last_added}
use Rattle.model.specs.Updates.{with_schema_id}
use Rattle.model.specs.Edits.{edit, id_or_minus_one}
use Rattle.model.proofs.Basics.{ok_not_err}
use Rattle.version.specs.Meaning.{version_in, of_schema}
use Rattle.fault.specs.Meaning.{fault_of}
use Rattle.view.specs.Meaning.{model_of, schema_in}
use Rattle.view.proofs.Readings.{reading}
use Rattle.view.proofs.Outcomes.{left_on}
use Rattle.view.proofs.Foretold.{planned_err, planned_ok, schema_stops, version_stops, all_three}
use Rattle.view.proofs.Chosen.{as_accepted}
use Rattle.view.proofs.view_metadata_builder.ViewMetadataBuilder.set_current_version.Goals as goal

pub returns-in_err-plan_current_version : goal.returns-in_err-plan_current_version
returns-in_err-plan_current_version g c =
    let G = reading g.S.Identified g.S.Numbered g.S.SchemaKind in
    let k = g.S.Numbered.alike in
    let b = c.args.self.now in
    let x = schema_in G b.view.text.now c.args.schema in
    let v = version_in b.view.text.now c.args.version in
    let f = c.in_err-plan_current_version.field-0.0 in
    left_on G _ b c.from_residual.result b f c.from_residual.ensures.1 refl
    (planned_err k (model_of G b) x v c.args.clock (fault_of f) c.in_err-plan_current_version.ensures)

pub returns-in_err-schema_id : goal.returns-in_err-schema_id
returns-in_err-schema_id g c =
    let G = reading g.S.Identified g.S.Numbered g.S.SchemaKind in
    let k = g.S.Numbered.alike in
    let b = c.args.self.now in
    let x = schema_in G b.view.text.now c.args.schema in
    let v = version_in b.view.text.now c.args.version in
    ok_not_err (sym (schema_stops k (model_of G b) x v c.args.clock (fault_of c.in_err-schema_id.field-0.0) (c.in_err-schema_id.ensures.did c.args.clock).as_defined)
    ∙ (planned_ok k (model_of G b) x v c.args.clock c.in_ok-plan_current_version.field-0 c.in_ok-plan_current_version.ensures).1)

pub returns-in_err-add_version : goal.returns-in_err-add_version
returns-in_err-add_version g c =
    let G = reading g.S.Identified g.S.Numbered g.S.SchemaKind in
    let k = g.S.Numbered.alike in
    let b = c.args.self.now in
    let x = schema_in G b.view.text.now c.args.schema in
    let v = version_in b.view.text.now c.args.version in
    let b₁ = c.add_schema.new.self in
    let made = c.in_ok-schema_id.ensures in
    let under =
    ap (λ w. edit k (model_of G b₁) (add_version w) c.args.clock)
    ((λ h. version_in ((made.did c.args.clock).block h) ((c.with_schema_id.ensures ∙ ap (λ i. of_schema i c.args.version) (to_z-of_z w32 c.in_ok-schema_id.schema_id (search rules))) h))
    ∙ ap (λ o. with_schema_id (id_or_minus_one o) v) (sym made.answer)) in
    ok_not_err (sym (version_stops k (model_of G b) x v c.args.clock (model_of G b₁) (made.did c.args.clock).as_defined (fault_of c.in_err-add_version.field-0.0) ((c.in_err-add_version.ensures.did c.args.clock).as_defined ∙ under))
    ∙ (planned_ok k (model_of G b) x v c.args.clock c.in_ok-plan_current_version.field-0 c.in_ok-plan_current_version.ensures).1)

pub returns : goal.returns
returns g c =
    let G = reading g.S.Identified g.S.Numbered g.S.SchemaKind in
    let k = g.S.Numbered.alike in
    let b = c.args.self.now in
    let x = schema_in G b.view.text.now c.args.schema in
    let v = version_in b.view.text.now c.args.version in
    let b₁ = c.add_schema.new.self in
    let made = c.in_ok-schema_id.ensures in
    let under =
    ap (λ w. edit k (model_of G b₁) (add_version w) c.args.clock)
    ((λ h. version_in ((made.did c.args.clock).block h) ((c.with_schema_id.ensures ∙ ap (λ i. of_schema i c.args.version) (to_z-of_z w32 c.in_ok-schema_id.schema_id (search rules))) h))
    ∙ ap (λ o. with_schema_id (id_or_minus_one o) v) (sym made.answer)) in
    let b₂ = c.add_version.new.self in
    let accepted = planned_ok k (model_of G b) x v c.args.clock c.in_ok-plan_current_version.field-0 c.in_ok-plan_current_version.ensures in
    as_accepted G (edit k (model_of G b) (set_current_version x v) c.args.clock) b c.set_current_version_id.result _ accepted.0
    (c.set_current_version_id.ensures.as_defined
    ∙ (ap (edit k (model_of G b₂) (set_current_version_id last_added)) (to_z-of_z w64 c.args.clock c.ranges.clock)
    ∙ all_three k (model_of G b) x v c.args.clock (model_of G b₁) (made.did c.args.clock).as_defined (model_of G b₂) ((c.in_ok-add_version.ensures.did c.args.clock).as_defined ∙ under)))
    (c.set_current_version_id.ensures.block ∙ ((c.in_ok-add_version.ensures.did c.args.clock).block ∙ (made.did c.args.clock).block))
    accepted.1
