-- Building, as the model has it. Assumes nothing.
use Rattle.std.proofs.Common.{◌≡◌, ℕ, count_by, ◌+◌, Bool, true, false, cond, not, ◌&&◌, List, ◌∷◌, map, length, drop, ℤ, Some, None, IsErrAnd, Ok, Err, Option, Result, sym, refl, ap, ◌∙◌, subst, arith}
use mathlib.Core.List.{map-map}
use Rattle.std.specs.Option.{option_map}
use Rattle.std.proofs.lemmas.List.{length-map, length-take, length-append, take_at}
use Rattle.std.proofs.lemmas.List.Recursion.{is_count_by}
use Rattle.std.proofs.lemmas.Bool.Decides.{nat_tests}
use Rattle.model.specs.Bytes.{Bytes}
use Rattle.model.specs.Ids.{find, holds}
use Rattle.model.specs.Refusals.{Fault, fault, refuse, over, no_current_version, schema_not_held, lost_dialect, limit_reached, versions_part, log_part, builder_part}
use Rattle.model.specs.Settings.{drop_key}
use Rattle.model.specs.State.{State, Metadata, Change}
use Rattle.model.specs.Version.{Version, schema_ids, version_ids}
use Rattle.model.specs.Updates.{metadata_of}
use Rattle.model.specs.Build.{build, build_at, built_metadata, kept_versions, kept_log, with_entry, additions, how_many_to_keep, history_size, unexpired, look_up, drop_allowed, loses_dialect}
use Rattle.register.specs.declared.numbered.Identified as identified
use Rattle.register.specs.declared.numbered.Numbered as numbered
use Rattle.register.specs.declared.table.Table.{Table}
use Rattle.register.specs.Tables.{held_in, room, is_full, kept_from, with_one_more}
use Rattle.schema.specs.declared.kind.SchemaKind as schema_kind
use Rattle.version.specs.declared.view_version.ViewVersion.{ViewVersion}
use Rattle.version.specs.declared.view_version.ViewVersionLog.{ViewVersionLog}
use Rattle.version.specs.Meaning.{version_of, content_of, entry_of}
use Rattle.property.specs.Meaning.{properties_of}
use Rattle.expiry.specs.Expiry.{unexpired_by, holding}
use Rattle.expiry.proofs.Meanings.{expired_versions, ids_of_versions}
use Rattle.view.specs.declared.view_metadata_builder.ViewMetadataBuilder.{ViewMetadataBuilder}
use Rattle.view.specs.declared.view_update.ViewUpdate.{ViewUpdate}
use Rattle.view.specs.declared.view_update.ViewUpdate.TheVariants.{AssignUuid, SetLocation, AddSchema, AddViewVersion, SetCurrentViewVersion, SetProperties, RemoveProperties}
use Rattle.view.specs.Meaning.{Reading, model_of, metadata, changes_of, change_of, schema_of}
use Rattle.view.proofs.Readings.{reading}
use Rattle.view.specs.Steps.{with_log, with_versions}
use Rattle.fault.specs.declared.fault.Fault as code
use Rattle.fault.specs.Meaning.{fault_of}
use Rattle.view.specs.Finished.{adds_version, logged, build_after, HoldsBuild}
use Rattle.view.proofs.Recording.{one_more}
use Rattle.view.proofs.Mapped.{find_mapped}

module _ {X : Type 0} (g : Reading X) (block : Bytes) where
  -- those that add a version, counted
  additions_cons : (u : ViewUpdate X) (us : List (ViewUpdate X)) → additions (map (change_of g block) (u ∷ us)) ≡ cond (adds_version u) (1 + additions (map (change_of g block) us)) (additions (map (change_of g block) us))
  additions_cons (AssignUuid u) us = refl
  additions_cons (SetLocation t) us = refl
  additions_cons (AddSchema x i) us = refl
  additions_cons (AddViewVersion v) us = omega arith
  additions_cons (SetCurrentViewVersion i) us = refl
  additions_cons (SetProperties ps) us = refl
  additions_cons (RemoveProperties ks) us = refl

  pub additions_counted : (us : List (ViewUpdate X)) → additions (map (change_of g block) us) ≡ count_by adds_version us
  additions_counted = is_count_by (λ us. additions (map (change_of g block) us)) adds_version refl additions_cons

module _ (t : Table ViewVersionLog) (o : Option ViewVersionLog) where
  -- with one, it has none where it is full
  pub over_some : (x : ViewVersionLog) → o ≡ Some x → is_full t ≡ over (room t) (with_entry (map entry_of (held_in t)) (option_map entry_of o))
  over_some x e = simp (e, length-append, length-map, length-take) (grind (arith, nat_tests))

-- the last of three tests passed, where the answer is accepted
last_passed : {A : Type 0} (p q r : Bool) (e f h : Fault) (x y : A) → Ok x ≡ refuse p e (refuse q f (refuse r h (Ok y))) → r ≡ false
last_passed true q r e f h x y is = absurd (cc)
last_passed false true r e f h x y is = absurd (cc)
last_passed false false true e f h x y is = absurd (cc)
last_passed false false false e f h x y is = refl

-- what is built has room for its log
module _ {C : Type 0} (s : State C) (x : Metadata C × List (Change C)) where
  room_at : (o : Option Version) → Ok x ≡ build_at s o → over s.rooms.version_log (with_entry s.metadata.version_log s.pending_entry) ≡ false
  room_at None e = absurd (cc)
  room_at (Some v) e =
      last_passed (not (holds v.content.schema_id (schema_ids s.metadata.schemas))) (not (drop_allowed (look_up drop_key s.metadata.properties)) && loses_dialect s.previous_version v.content)
      (over s.rooms.version_log (with_entry s.metadata.version_log s.pending_entry))
      (fault schema_not_held versions_part) (fault lost_dialect builder_part) (fault limit_reached log_part) x (built_metadata s, s.changes) e

  pub built_has_room : Ok x ≡ build s → over s.rooms.version_log (with_entry s.metadata.version_log s.pending_entry) ≡ false
  unfolding build
  built_has_room e = room_at (find (λ v. v.id) s.metadata.current_version_id s.metadata.versions) e

module _ {X : Type 0} (i : identified.Ghosts X) (n : numbered.Ghosts X) (k : schema_kind.Ghosts X) (b : ViewMetadataBuilder X) where
  abbrev G : Reading X
  G = reading i n k

  abbrev block : Bytes
  block = b.view.text.now

  -- the version that is current
  abbrev current : Option ViewVersion
  current = find (λ v. v.version_id) b.view.current_version_id (held_in b.view.versions.table)

  -- it as it was looked up
  pub looked_up : (z : ℤ) (vs : List ViewVersion) (o : Option ViewVersion) → o ≡ find (λ v. v.version_id) z vs → z ≡ b.view.current_version_id → vs ≡ held_in b.view.versions.table → current ≡ o
  looked_up z vs o e q h = sym (e ∙ (λ j. find (λ v. v.version_id) (q j) (h j)))

  -- its schema, as it was looked up
  pub schema_held : (v : ViewVersion) (z : ℤ) (xs : List X) (r : Bool) → r ≡ holds z (map i.named xs) → z ≡ v.schema_id → xs ≡ held_in b.view.schemas.table →
      holds v.schema_id (map i.named (held_in b.view.schemas.table)) ≡ r
  schema_held v z xs r e q h = sym (e ∙ (λ j. holds (q j) (map i.named (h j))))

  -- the version would lose a dialect, and none may be lost
  abbrev loses : ViewVersion → Bool
  loses v = not (drop_allowed (look_up drop_key (properties_of block b.view.properties))) && loses_dialect (option_map (version_of block) b.previous_view_version) (content_of block v)

  -- the log has no room
  abbrev log_over : Bool
  log_over = over (room b.view.version_log) (with_entry (map entry_of (held_in b.view.version_log)) (option_map entry_of b.history_entry))

  -- the exit of a `?`
  pub built_err : (s : Result (Unit {0}) code.Fault) (f : code.Fault) → IsErrAnd s (λ y. y ≡ f) → build_after G b s ≡ Err (fault_of f)
  built_err (Err y) f e = ap (λ z. Err (fault_of z)) e
  built_err (Ok a) f e = absurd e

  pub build_without : current ≡ None → Err (fault no_current_version builder_part) ≡ build (model_of G b)
  unfolding build
  build_without e = sym (ap (build_at (model_of G b)) (find_mapped (version_of block) (λ v. v.id) b.view.current_version_id (held_in b.view.versions.table) ∙ ap (option_map (version_of block)) e))

  -- by the answers of the three tests
  pub build_by : (v : ViewVersion) (held lost more : Bool) → current ≡ Some v → holds v.schema_id (map i.named (held_in b.view.schemas.table)) ≡ held → loses v ≡ lost → log_over ≡ more →
      refuse (not held) (fault schema_not_held versions_part) (refuse lost (fault lost_dialect builder_part) (refuse more (fault limit_reached log_part) (Ok (built_metadata (model_of G b), changes_of G b.view)))) ≡ build (model_of G b)
  unfolding build
  build_by v held lost more e h l o =
      let ids : schema_ids (map (schema_of G block) (held_in b.view.schemas.table)) ≡ map i.named (held_in b.view.schemas.table) = map-map (λ t. t.id) (schema_of G block) (held_in b.view.schemas.table) in
      let held_is : holds v.schema_id (schema_ids (map (schema_of G block) (held_in b.view.schemas.table))) ≡ held = ap (holds v.schema_id) ids ∙ h in
      sym
      (ap (build_at (model_of G b)) (find_mapped (version_of block) (λ v. v.id) b.view.current_version_id (held_in b.view.versions.table) ∙ ap (option_map (version_of block)) e)
      ∙ (λ j. refuse (not (held_is j)) (fault schema_not_held versions_part) (refuse (l j) (fault lost_dialect builder_part) (refuse (o j) (fault limit_reached log_part) (Ok (built_metadata (model_of G b), changes_of G b.view))))))

  -- the log with the pending entry, as the model has it
  entered_log : (o : Option ViewVersionLog) → over (room b.view.version_log) (with_entry (map entry_of (held_in b.view.version_log)) (option_map entry_of o)) ≡ false →
      map entry_of (held_in (logged b.view.version_log o)) ≡ with_entry (map entry_of (held_in b.view.version_log)) (option_map entry_of o)
  entered_log None h = refl
  entered_log (Some e) h =
      let free : is_full b.view.version_log ≡ false = over_some b.view.version_log (Some e) e refl ∙ h in
      ap (λ q. map entry_of (held_in (cond q b.view.version_log (with_one_more b.view.version_log e)))) free ∙ one_more entry_of b.view.version_log e free

  -- the versions that stay, and the log cut to them
  module _ (size added : ℕ) (is_size : size ≡ history_size (properties_of block b.view.properties)) (is_added : added ≡ additions (changes_of G b.view))
      (vs : Table ViewVersion) (is_kept : vs ≡ holding b.view.versions.table (unexpired_by (λ v. v.version_id) (held_in b.view.versions.table) b.view.current_version_id (how_many_to_keep size added) added)) where
    kept_is : map (version_of block) (held_in vs) ≡ kept_versions (model_of G b)
    kept_is =
        ap (λ t. map (version_of block) (held_in t)) is_kept
        ∙ (expired_versions (λ v. v.version_id) (version_of block) (λ v. refl) b.view.versions.table b.view.current_version_id (how_many_to_keep size added) added
        ∙ (λ j. unexpired (map (version_of block) (held_in b.view.versions.table)) b.view.current_version_id (how_many_to_keep (is_size j) (is_added j)) (is_added j)))

    finished : log_over ≡ false → (log : Table ViewVersionLog) (from : ℕ) →
        log ≡ kept_from from (logged b.view.version_log b.history_entry) →
        map entry_of (drop from (held_in (logged b.view.version_log b.history_entry))) ≡ kept_log (map (λ v. v.version_id) (held_in vs)) (map entry_of (held_in (logged b.view.version_log b.history_entry))) →
        ◌≡◌ {A = Metadata n.Content × List (Change n.Content)}
        (metadata_of 1 b.view.uuid (metadata G b.view).location b.view.current_version_id (metadata G b.view).schemas (map (version_of block) (held_in vs)) (map entry_of (held_in log)) (metadata G b.view).properties, changes_of G b.view)
        (built_metadata (model_of G b), changes_of G b.view)
    finished h log from is_log cut =
        let full : Table ViewVersionLog = logged b.view.version_log b.history_entry in
        let rest : List ViewVersionLog = drop from (held_in full) in
        let ids : map (λ v. v.version_id) (held_in vs) ≡ version_ids (kept_versions (model_of G b)) = sym (ids_of_versions (λ v. v.version_id) (version_of block) (λ v. refl) (held_in vs)) ∙ ap version_ids kept_is in
        let log_is : map entry_of (held_in log) ≡ kept_log (version_ids (kept_versions (model_of G b))) (with_entry (map entry_of (held_in b.view.version_log)) (option_map entry_of b.history_entry)) =
        ap (λ t. map entry_of (held_in t)) is_log
        ∙ (ap (map entry_of) (take_at rest (drop (length rest) full.slots.now) (length rest) refl)
        ∙ (cut ∙ (λ j. kept_log (ids j) (entered_log b.history_entry h j)))) in
        λ j. (metadata_of 1 b.view.uuid (metadata G b.view).location b.view.current_version_id (metadata G b.view).schemas (kept_is j) (log_is j) (metadata G b.view).properties, changes_of G b.view)

  -- what the builder with its log entered makes of the rest
  abbrev Finishes : ViewMetadataBuilder X → Type 0
  Finishes m =
      (size added : ℕ) → size ≡ history_size (properties_of m.view.text.now m.view.properties) → added ≡ additions (changes_of G m.view) →
      (vs : Table ViewVersion) → vs ≡ holding m.view.versions.table (unexpired_by (λ v. v.version_id) (held_in m.view.versions.table) m.view.current_version_id (how_many_to_keep size added) added) →
      log_over ≡ false → (log : Table ViewVersionLog) (from : ℕ) → log ≡ kept_from from m.view.version_log →
      map entry_of (drop from (held_in m.view.version_log)) ≡ kept_log (map (λ v. v.version_id) (held_in vs)) (map entry_of (held_in m.view.version_log)) →
      HoldsBuild G b (with_versions (record { table = vs }) (with_log log m))

  pub finishes : (m : ViewMetadataBuilder X) → m ≡ with_log (logged b.view.version_log b.history_entry) b → Finishes m
  finishes m e = subst Finishes (sym e) (λ size added is_size is_added vs is_kept h log from is_log cut. finished size added is_size is_added vs is_kept h log from is_log cut)
