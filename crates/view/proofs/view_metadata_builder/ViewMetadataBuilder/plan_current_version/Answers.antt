use Rattle.std.proofs.Common.{◌≡◌, not, length, Err, sym, ap, ◌∙◌, w32, of_z, eqb, rules}
use Rattle.std.proofs.lemmas.List.{length-map}
use Rattle.std.proofs.lemmas.Int.{to_z-of_z}
use Rattle.model.specs.Ids.{same_number}
use Rattle.register.specs.Tables.{held_in, room}
use Rattle.version.specs.Meaning.{version_in, of_schema}
use Rattle.fault.specs.Meaning.{fault_of}
use Rattle.view.specs.Meaning.{model_of, schema_in, change_of}
use Rattle.view.proofs.Readings.{reading}
use Rattle.view.specs.Plans.{counted, version_choice}
use Rattle.view.proofs.Outcomes.{meant_by}
use Rattle.view.proofs.Chosen.{plan_version, plan_second, plan_last}
use Rattle.view.proofs.view_metadata_builder.ViewMetadataBuilder.plan_current_version.Goals as goal

pub returns-in_err-version_id : goal.returns-in_err-version_id
returns-in_err-version_id g c =
    let G = reading g.S.Identified g.S.Numbered g.S.SchemaKind in
    let b = c.args.self.now in
    let x = schema_in G b.view.text.now c.args.schema.now in
    let v = version_in b.view.text.now c.args.version in
    let i = c.in_ok-schema_id.schema_id in
    let r = c.in_ok-schema_id.recorded in
    let first = ap (λ n. counted (room b.view.changes) n r) (ap length c.items.ensures ∙ sym (length-map (held_in b.view.changes) (change_of G b.view.text.now))) in
    let n = c.in_ok-changes.changes in
    let under = ap (λ w. version_choice (model_of G b) (version_in b.view.text.now w)) (c.with_schema_id.ensures ∙ ap (λ z. of_schema z c.args.version) (to_z-of_z w32 i (search rules))) in
    let f = c.in_err-version_id.field-0.0 in
    meant_by _ f c.from_residual-in_err-version_id.ensures.1 ∙ plan_version g.S.Numbered.alike (model_of G b) x v i r n c.in_ok-schema_id.ensures (c.in_ok-changes.ensures ∙ first) (Err (fault_of f)) (c.in_err-version_id.ensures ∙ under)

pub returns-in_err-changes-2 : goal.returns-in_err-changes-2
returns-in_err-changes-2 g c =
    let G = reading g.S.Identified g.S.Numbered g.S.SchemaKind in
    let b = c.args.self.now in
    let x = schema_in G b.view.text.now c.args.schema.now in
    let v = version_in b.view.text.now c.args.version in
    let i = c.in_ok-schema_id.schema_id in
    let r = c.in_ok-schema_id.recorded in
    let first = ap (λ n. counted (room b.view.changes) n r) (ap length c.items.ensures ∙ sym (length-map (held_in b.view.changes) (change_of G b.view.text.now))) in
    let n = c.in_ok-changes.changes in
    let under = ap (λ w. version_choice (model_of G b) (version_in b.view.text.now w)) (c.with_schema_id.ensures ∙ ap (λ z. of_schema z c.args.version) (to_z-of_z w32 i (search rules))) in
    let j = c.in_ok-version_id.version_id in
    let q = c.in_ok-version_id.recorded in
    let f = c.in_err-changes-2.field-0.0 in
    meant_by _ f c.from_residual-in_err-changes-2.ensures.1 ∙ plan_second g.S.Numbered.alike (model_of G b) x v i r n c.in_ok-schema_id.ensures (c.in_ok-changes.ensures ∙ first) j q (c.in_ok-version_id.ensures ∙ under) (Err (fault_of f)) c.in_err-changes-2.ensures

pub returns : goal.returns
returns g c =
    let G = reading g.S.Identified g.S.Numbered g.S.SchemaKind in
    let b = c.args.self.now in
    let x = schema_in G b.view.text.now c.args.schema.now in
    let v = version_in b.view.text.now c.args.version in
    let i = c.in_ok-schema_id.schema_id in
    let r = c.in_ok-schema_id.recorded in
    let first = ap (λ n. counted (room b.view.changes) n r) (ap length c.items.ensures ∙ sym (length-map (held_in b.view.changes) (change_of G b.view.text.now))) in
    let n = c.in_ok-changes.changes in
    let under = ap (λ w. version_choice (model_of G b) (version_in b.view.text.now w)) (c.with_schema_id.ensures ∙ ap (λ z. of_schema z c.args.version) (to_z-of_z w32 i (search rules))) in
    let j = c.in_ok-version_id.version_id in
    let q = c.in_ok-version_id.recorded in
    let m = c.in_ok-changes-2.changes in
    let same : eqb (of_z w32 j) (of_z w32 b.view.current_version_id) ≡ same_number j b.view.current_version_id = search rules in
    let set = ap (λ z. counted (room b.view.changes) m (not z)) same in
    plan_last g.S.Numbered.alike (model_of G b) x v i r n c.in_ok-schema_id.ensures (c.in_ok-changes.ensures ∙ first) j q (c.in_ok-version_id.ensures ∙ under) m c.in_ok-changes-2.ensures _ (c.count_change-3.ensures ∙ set)
