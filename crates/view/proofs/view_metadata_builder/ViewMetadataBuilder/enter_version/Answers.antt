use Rattle.std.proofs.Common.{cond, Ok, Err, refl, ap, ◌∙◌, w32, rules}
use Rattle.std.proofs.lemmas.Int.{to_z-of_z}
use Rattle.model.specs.Ids.{is_id, last_added}
use Rattle.register.specs.Registers.{pushed}
use Rattle.version.specs.Meaning.{renumbered, of_schema}
use Rattle.fault.specs.Meaning.{fault_of}
use Rattle.view.proofs.Readings.{reading}
use Rattle.view.specs.Steps.{with_versions, with_last_version}
use Rattle.view.specs.declared.view_update.ViewUpdate.TheVariants.{AddViewVersion}
use Rattle.view.proofs.Outcomes.{left_on, unrecorded, noted}
use Rattle.view.proofs.NewVersions.{not_admitted, not_numbered, version_entered}
use Rattle.view.proofs.view_metadata_builder.ViewMetadataBuilder.enter_version.Goals as goal

pub returns-in_err-schema_id-clause-did : goal.returns-in_err-schema_id-clause-did
returns-in_err-schema_id-clause-did g c =
    let G = reading g.S.Identified g.S.Numbered g.S.SchemaKind in
    let b = c.args.self.now in
    let f = c.in_err-schema_id.field-0.0 in
    left_on G _ b c.from_residual.result b f c.from_residual.ensures.1 refl (not_admitted G b c.args.version (fault_of f) c.in_err-schema_id.ensures)

pub returns-in_err-id-clause-did : goal.returns-in_err-id-clause-did
returns-in_err-id-clause-did g c =
    let G = reading g.S.Identified g.S.Numbered g.S.SchemaKind in
    let b = c.args.self.now in
    let f = c.in_err-id.field-0.0 in
    left_on G _ b c.from_residual-in_err-id.result b f c.from_residual-in_err-id.ensures.1 refl
    (not_numbered G b c.args.version c.in_ok-schema_id.schema_id c.in_ok-schema_id.ensures (Err (fault_of f)) c.in_err-id.ensures (fault_of f) refl)

pub returns-in_err-record-clause-did : goal.returns-in_err-record-clause-did
returns-in_err-record-clause-did g c =
    let G = reading g.S.Identified g.S.Numbered g.S.SchemaKind in
    let b = c.args.self.now in
    let y = c.with_id-stored.result in
    let w = c.with_schema_id-view_version.result in
    let i = c.in_ok-schema_id.schema_id in
    let j = c.in_ok-id.id in
    let zi = to_z-of_z w32 i (search rules) in
    let z = to_z-of_z w32 j (search rules) in
    unrecorded G _ b (AddViewVersion w) c.record.result c.record.ensures.answer (with_last_version j (with_versions (pushed y b.view.versions) b)) refl refl
    (version_entered G b c.args.version i c.in_ok-schema_id.ensures (Ok j) c.in_ok-id.ensures j y w refl
    (c.with_id-stored.ensures ∙ (λ h. renumbered (z h) ((c.with_schema_id.ensures ∙ ap (λ k. of_schema k c.args.version) zi) h)))
    (c.with_schema_id-view_version.ensures ∙ ap (λ k. of_schema k y) (to_z-of_z w32 c.as_recorded.result (search rules) ∙ (c.as_recorded.ensures ∙ ap (λ k. cond (is_id b.last_added_schema_id k) last_added k) zi))))
    c.from_residual-in_err-record.result _ _ c.in_err-record.was c.from_residual-in_err-record.ensures.1 c.record.ensures.builder

pub returns-clause-did : goal.returns-clause-did
returns-clause-did g c =
    let G = reading g.S.Identified g.S.Numbered g.S.SchemaKind in
    let b = c.args.self.now in
    let y = c.with_id-stored.result in
    let w = c.with_schema_id-view_version.result in
    let i = c.in_ok-schema_id.schema_id in
    let j = c.in_ok-id.id in
    let zi = to_z-of_z w32 i (search rules) in
    let z = to_z-of_z w32 j (search rules) in
    noted G _ b (AddViewVersion w) c.record.result c.record.ensures.answer (with_last_version j (with_versions (pushed y b.view.versions) b)) refl refl
    (version_entered G b c.args.version i c.in_ok-schema_id.ensures (Ok j) c.in_ok-id.ensures j y w refl
    (c.with_id-stored.ensures ∙ (λ h. renumbered (z h) ((c.with_schema_id.ensures ∙ ap (λ k. of_schema k c.args.version) zi) h)))
    (c.with_schema_id-view_version.ensures ∙ ap (λ k. of_schema k y) (to_z-of_z w32 c.as_recorded.result (search rules) ∙ (c.as_recorded.ensures ∙ ap (λ k. cond (is_id b.last_added_schema_id k) last_added k) zi))))
    _ _ _ c.in_ok-record.was
    (λ h. with_last_version (z h) (with_versions ((c.push.ensures.register ∙ ap (λ t. pushed y t.view.versions) c.record.ensures.builder) h) (c.record.ensures.builder h)))
