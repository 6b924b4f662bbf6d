use Rattle.std.proofs.Common.{true, false, Err, sym, refl, ap, ◌∙◌, w32, rules}
use Rattle.std.proofs.lemmas.Int.{to_z-of_z}
use Rattle.view.proofs.Outcomes.{none_means}
use Rattle.view.proofs.Builds.{looked_up, schema_held, built_err, build_without, build_by}
use Rattle.view.proofs.view_metadata_builder.ViewMetadataBuilder.require_buildable.Goals as goal

pub returns-in_err-current : goal.returns-in_err-current
returns-in_err-current g c =
    let b = c.args.self.now in
    let f = c.in_err-current.field-0.0 in
    let e = c.in_err-current.ensures in
    built_err g.S.Identified g.S.Numbered g.S.SchemaKind b c.from_residual.result f c.from_residual.ensures.1
    ∙ (ap Err (none_means c.find.result c.new.result f _ e.ok_part e.value c.new.ensures)
    ∙ build_without g.S.Identified g.S.Numbered g.S.SchemaKind b (looked_up g.S.Identified g.S.Numbered g.S.SchemaKind b _ _ c.find.result c.find.ensures (to_z-of_z w32 b.view.current_version_id (search rules)) c.items.ensures ∙ e.ok_part))

pub returns-then-not-holds_id : goal.returns-then-not-holds_id
returns-then-not-holds_id g c =
    let b = c.args.self.now in
    let v = c.in_ok-current.current in
    ap Err c.new-then-not-holds_id.ensures
    ∙ build_by g.S.Identified g.S.Numbered g.S.SchemaKind b v false _ _
    (looked_up g.S.Identified g.S.Numbered g.S.SchemaKind b _ _ c.find.result c.find.ensures (to_z-of_z w32 b.view.current_version_id (search rules)) c.items.ensures ∙ c.in_ok-current.ensures.ok_part)
    (schema_held g.S.Identified g.S.Numbered g.S.SchemaKind b v _ _ c.holds_id.result c.holds_id.ensures (to_z-of_z w32 v.schema_id (search rules)) c.items-2.ensures ∙ c.if-not-holds_id.true)
    refl refl

pub returns-then-would_lose_dialect : goal.returns-then-would_lose_dialect
returns-then-would_lose_dialect g c =
    let b = c.args.self.now in
    let v = c.in_ok-current.current in
    ap Err c.new-then-would_lose_dialect.ensures
    ∙ build_by g.S.Identified g.S.Numbered g.S.SchemaKind b v true true _
    (looked_up g.S.Identified g.S.Numbered g.S.SchemaKind b _ _ c.find.result c.find.ensures (to_z-of_z w32 b.view.current_version_id (search rules)) c.items.ensures ∙ c.in_ok-current.ensures.ok_part)
    (schema_held g.S.Identified g.S.Numbered g.S.SchemaKind b v _ _ c.holds_id.result c.holds_id.ensures (to_z-of_z w32 v.schema_id (search rules)) c.items-2.ensures ∙ c.if-not-holds_id.false)
    (sym c.would_lose_dialect.ensures ∙ c.if-would_lose_dialect.true) refl

pub returns-then-is_log_over : goal.returns-then-is_log_over
returns-then-is_log_over g c =
    let b = c.args.self.now in
    let v = c.in_ok-current.current in
    ap Err c.new-then-is_log_over.ensures
    ∙ build_by g.S.Identified g.S.Numbered g.S.SchemaKind b v true false true
    (looked_up g.S.Identified g.S.Numbered g.S.SchemaKind b _ _ c.find.result c.find.ensures (to_z-of_z w32 b.view.current_version_id (search rules)) c.items.ensures ∙ c.in_ok-current.ensures.ok_part)
    (schema_held g.S.Identified g.S.Numbered g.S.SchemaKind b v _ _ c.holds_id.result c.holds_id.ensures (to_z-of_z w32 v.schema_id (search rules)) c.items-2.ensures ∙ c.if-not-holds_id.false)
    (sym c.would_lose_dialect.ensures ∙ c.if-would_lose_dialect.false)
    (sym c.is_log_over.ensures ∙ c.if-is_log_over.true)

pub returns : goal.returns
returns g c =
    let b = c.args.self.now in
    let v = c.in_ok-current.current in
    build_by g.S.Identified g.S.Numbered g.S.SchemaKind b v true false false
    (looked_up g.S.Identified g.S.Numbered g.S.SchemaKind b _ _ c.find.result c.find.ensures (to_z-of_z w32 b.view.current_version_id (search rules)) c.items.ensures ∙ c.in_ok-current.ensures.ok_part)
    (schema_held g.S.Identified g.S.Numbered g.S.SchemaKind b v _ _ c.holds_id.result c.holds_id.ensures (to_z-of_z w32 v.schema_id (search rules)) c.items-2.ensures ∙ c.if-not-holds_id.false)
    (sym c.would_lose_dialect.ensures ∙ c.if-would_lose_dialect.false)
    (sym c.is_log_over.ensures ∙ c.if-is_log_over.false)
