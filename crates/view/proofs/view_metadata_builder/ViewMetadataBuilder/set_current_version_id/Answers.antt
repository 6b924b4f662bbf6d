use Rattle.std.proofs.Common.{◌≡◌, true, false, cond, map, Some, Err, sym, refl, ap, ◌∙◌, w32, w64, to_z, of_z, rules}
use Rattle.std.proofs.lemmas.Int.{to_z-of_z}
use Rattle.model.specs.Ids.{holds, is_id, last_added, resolved_id}
use Rattle.model.specs.State.{entered}
use Rattle.model.specs.Edits.{log_entry}
use Rattle.model.proofs.Basics.{same_eq}
use Rattle.register.specs.Tables.{held_in}
use Rattle.register.proofs.Ids.{same_no}
use Rattle.view.specs.Meaning.{model_of}
use Rattle.view.proofs.Readings.{reading}
use Rattle.view.specs.Steps.{with_current, with_pending}
use Rattle.view.specs.declared.view_update.ViewUpdate.TheVariants.{SetCurrentViewVersion}
use Rattle.view.proofs.Outcomes.{left_by, left_on, none_means, went, unrecorded, noted}
use Rattle.view.proofs.CurrentIds.{current_none, current_kept, current_absent, current_new}
use Rattle.view.proofs.view_metadata_builder.ViewMetadataBuilder.set_current_version_id.Goals as goal

pub returns-in_err-id : goal.returns-in_err-id
returns-in_err-id g c =
    let G = reading g.S.Identified g.S.Numbered g.S.SchemaKind in
    let b = c.args.self.now in
    let f = c.in_err-id.field-0.0 in
    let e = c.in_err-id.ensures in
    let v = to_z-of_z w32 c.args.version_id c.ranges.version_id in
    left_on G _ b c.from_residual.result b f c.from_residual.ensures.1 refl
    (current_none G b c.args.clock c.args.version_id (ap (λ i. resolved_id i b.last_added_version_id) (sym v) ∙ (sym c.resolved.ensures ∙ e.ok_part))
    ∙ ap Err (sym (none_means c.resolved.result c.new.result f _ e.ok_part e.value c.new.ensures)))

pub returns-then-id-self : goal.returns-then-id-self
returns-then-id-self g c =
    let G = reading g.S.Identified g.S.Numbered g.S.SchemaKind in
    let b = c.args.self.now in
    let v = to_z-of_z w32 c.args.version_id c.ranges.version_id in
    let same : c.in_ok-id.id ≡ b.view.current_version_id = sym (to_z-of_z w32 c.in_ok-id.id (search rules)) ∙ (ap (to_z w32) c.if-id-self.true ∙ to_z-of_z w32 b.view.current_version_id (search rules)) in
    went G _ b tt b refl
    (current_kept G b c.args.clock c.args.version_id c.in_ok-id.id (ap (λ i. resolved_id i b.last_added_version_id) (sym v) ∙ (sym c.resolved.ensures ∙ c.in_ok-id.ensures.ok_part)) (same_eq c.in_ok-id.id b.view.current_version_id same))

pub returns-then-not-holds_id : goal.returns-then-not-holds_id
returns-then-not-holds_id g c =
    let G = reading g.S.Identified g.S.Numbered g.S.SchemaKind in
    let b = c.args.self.now in
    let v = to_z-of_z w32 c.args.version_id c.ranges.version_id in
    let z = to_z-of_z w32 c.in_ok-id.id (search rules) in
    let other = same_no c.in_ok-id.id b.view.current_version_id (λ e. c.if-id-self.false (ap (of_z w32) e)) in
    let absent : holds c.in_ok-id.id (map (λ x. x.version_id) (held_in b.view.versions.table)) ≡ false =
    sym (c.holds_id.ensures ∙ (λ t. holds (z t) (map (λ x. x.version_id) (c.items.ensures t)))) ∙ c.if-not-holds_id.true in
    left_by G _ b _ b _ c.new-then-not-holds_id.ensures refl
    (current_absent G b c.args.clock c.args.version_id c.in_ok-id.id (ap (λ i. resolved_id i b.last_added_version_id) (sym v) ∙ (sym c.resolved.ensures ∙ c.in_ok-id.ensures.ok_part)) other absent)

pub returns-in_err-record : goal.returns-in_err-record
returns-in_err-record g c =
    let G = reading g.S.Identified g.S.Numbered g.S.SchemaKind in
    let b = c.args.self.now in
    let j = c.in_ok-id.id in
    let e = c.log_entry-entry.result in
    let k = c.as_recorded-view_version_id.result in
    let v = to_z-of_z w32 c.args.version_id c.ranges.version_id in
    let z = to_z-of_z w32 c.in_ok-id.id (search rules) in
    let t = to_z-of_z w64 c.args.clock c.ranges.clock in
    let other = same_no c.in_ok-id.id b.view.current_version_id (λ s. c.if-id-self.false (ap (of_z w32) s)) in
    let there : holds c.in_ok-id.id (map (λ x. x.version_id) (held_in b.view.versions.table)) ≡ true =
    sym (c.holds_id.ensures ∙ (λ h. holds (z h) (map (λ x. x.version_id) (c.items.ensures h)))) ∙ c.if-not-holds_id.false in
    unrecorded G _ b (SetCurrentViewVersion (to_z w32 (of_z w32 k))) c.record.result c.record.ensures.answer (with_pending (Some e) (with_current j b)) refl refl
    (current_new G b c.args.clock c.args.version_id j (ap (λ i. resolved_id i b.last_added_version_id) (sym v) ∙ (sym c.resolved.ensures ∙ c.in_ok-id.ensures.ok_part)) other e (to_z w32 (of_z w32 k)) there
    (to_z-of_z w32 k (search rules) ∙ (c.as_recorded-view_version_id.ensures ∙ ap (λ i. cond (is_id b.last_added_version_id i) last_added i) z))
    (c.log_entry-entry.ensures ∙ (λ h. log_entry (entered (model_of G b)) (z h) (t h))))
    c.from_residual-in_err-record.result _ _ c.in_err-record.was c.from_residual-in_err-record.ensures.1 c.record.ensures.builder

pub returns : goal.returns
returns g c =
    let G = reading g.S.Identified g.S.Numbered g.S.SchemaKind in
    let b = c.args.self.now in
    let j = c.in_ok-id.id in
    let e = c.log_entry-entry.result in
    let k = c.as_recorded-view_version_id.result in
    let v = to_z-of_z w32 c.args.version_id c.ranges.version_id in
    let z = to_z-of_z w32 c.in_ok-id.id (search rules) in
    let t = to_z-of_z w64 c.args.clock c.ranges.clock in
    let other = same_no c.in_ok-id.id b.view.current_version_id (λ s. c.if-id-self.false (ap (of_z w32) s)) in
    let there : holds c.in_ok-id.id (map (λ x. x.version_id) (held_in b.view.versions.table)) ≡ true =
    sym (c.holds_id.ensures ∙ (λ h. holds (z h) (map (λ x. x.version_id) (c.items.ensures h)))) ∙ c.if-not-holds_id.false in
    noted G _ b (SetCurrentViewVersion (to_z w32 (of_z w32 k))) c.record.result c.record.ensures.answer (with_pending (Some e) (with_current j b)) refl refl
    (current_new G b c.args.clock c.args.version_id j (ap (λ i. resolved_id i b.last_added_version_id) (sym v) ∙ (sym c.resolved.ensures ∙ c.in_ok-id.ensures.ok_part)) other e (to_z w32 (of_z w32 k)) there
    (to_z-of_z w32 k (search rules) ∙ (c.as_recorded-view_version_id.ensures ∙ ap (λ i. cond (is_id b.last_added_version_id i) last_added i) z))
    (c.log_entry-entry.ensures ∙ (λ h. log_entry (entered (model_of G b)) (z h) (t h))))
    tt _ _ c.in_ok-record.was (λ h. with_pending (Some e) (with_current (z h) (c.record.ensures.builder h)))
