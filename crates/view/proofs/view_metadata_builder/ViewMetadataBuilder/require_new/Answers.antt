use Rattle.std.proofs.Common.{true, false, map, Ok, Err, sym, refl, ap, ◌∙◌, w32, rules}
use Rattle.std.proofs.lemmas.Int.{to_z-of_z}
use Rattle.model.specs.Ids.{holds, resolved_id}
use Rattle.fault.specs.Meaning.{fault_of}
use Rattle.view.proofs.Readings.{reading}
use Rattle.view.proofs.Outcomes.{meant_by}
use Rattle.view.proofs.NewVersions.{admitted_by}
use Rattle.view.proofs.view_metadata_builder.ViewMetadataBuilder.require_new.Goals as goal

pub returns-then-not-holds_id : goal.returns-then-not-holds_id
returns-then-not-holds_id g c =
    let b = c.args.self.now in
    let v = c.args.version.now in
    let i = c.in_ok-schema_id.schema_id in
    let z = to_z-of_z w32 i (search rules) in
    ap Err c.new-then-not-holds_id.ensures
    ∙ admitted_by (reading g.S.Identified g.S.Numbered g.S.SchemaKind) b v i false _
    (sym c.in_ok-schema_id.ensures.ok_part ∙ (c.resolved.ensures ∙ ap (λ k. resolved_id k b.last_added_schema_id) (to_z-of_z w32 v.schema_id (search rules))))
    (sym c.if-not-holds_id.true ∙ (c.holds_id.ensures ∙ (λ h. holds (z h) (map g.S.Identified.named (c.items.ensures h)))))
    refl

pub returns-in_err-require_fresh : goal.returns-in_err-require_fresh
returns-in_err-require_fresh g c =
    let b = c.args.self.now in
    let v = c.args.version.now in
    let i = c.in_ok-schema_id.schema_id in
    let z = to_z-of_z w32 i (search rules) in
    let f = c.in_err-require_fresh.field-0.0 in
    meant_by _ f c.from_residual-in_err-require_fresh.ensures.1
    ∙ admitted_by (reading g.S.Identified g.S.Numbered g.S.SchemaKind) b v i true (Err (fault_of f))
    (sym c.in_ok-schema_id.ensures.ok_part ∙ (c.resolved.ensures ∙ ap (λ k. resolved_id k b.last_added_schema_id) (to_z-of_z w32 v.schema_id (search rules))))
    (sym c.if-not-holds_id.false ∙ (c.holds_id.ensures ∙ (λ h. holds (z h) (map g.S.Identified.named (c.items.ensures h)))))
    c.in_err-require_fresh.ensures

pub returns : goal.returns
returns g c =
    let b = c.args.self.now in
    let v = c.args.version.now in
    let i = c.in_ok-schema_id.schema_id in
    let z = to_z-of_z w32 i (search rules) in
    ap Ok z
    ∙ admitted_by (reading g.S.Identified g.S.Numbered g.S.SchemaKind) b v i true (Ok tt)
    (sym c.in_ok-schema_id.ensures.ok_part ∙ (c.resolved.ensures ∙ ap (λ k. resolved_id k b.last_added_schema_id) (to_z-of_z w32 v.schema_id (search rules))))
    (sym c.if-not-holds_id.false ∙ (c.holds_id.ensures ∙ (λ h. holds (z h) (map g.S.Identified.named (c.items.ensures h)))))
    c.in_ok-require_fresh.ensures
