-- Adding a version, as the model has it. Assumes nothing.
use Rattle.std.proofs.Common.{◌≡◌, ℕ, Bool, true, false, cond, not, List, [], ◌∷◌, ◌++◌, map, ℤ, pos, Some, None, Ok, Err, Option, Result, sym, refl, ap, ◌∙◌, length-set}
use mathlib.Core.List.{map-map}
use Rattle.model.specs.Bytes.{Bytes, same_bytes, repeats}
use Rattle.model.specs.Ids.{is_id, holds, last_added, next_id, ids_used_up, lowest_id_where, resolved_id}
use Rattle.model.specs.Version.{Version, same_content, dialects, version_ids, schema_ids}
use Rattle.model.specs.Refusals.{Fault, refuse, refuse_with, then, fault, no_id_left, limit_reached, schema_not_held, repeated_dialect, time_too_early, versions_part, full}
use Rattle.model.specs.State.{VersionIn, State, add_version, version_added}
use Rattle.model.specs.Updates as updates
use Rattle.model.specs.Updates.{version_with_id, with_schema_id, stored_version, recorded, state_of, with_metadata}
use Rattle.model.specs.Edits.{too_early_for, with_next_version_id, as_recorded, edit, after_add_version, enter, enter_under, reuse_or_add_version}
use Rattle.register.specs.declared.fault.RegisterFault.{RegisterFault}
use Rattle.register.specs.declared.fault.RegisterFault.TheVariants.{NoIdLeft, Full}
use Rattle.register.specs.Tables.{held_in, room, is_full, with_one_more, after_push}
use Rattle.register.specs.Registers.{pushed}
use Rattle.version.specs.declared.view_version.ViewVersion.{ViewVersion}
use Rattle.version.specs.Meaning.{version_in, version_of, content_of, renumbered, of_schema}
use Rattle.view.specs.declared.view_metadata_builder.ViewMetadataBuilder.{ViewMetadataBuilder}
use Rattle.view.specs.declared.view_update.ViewUpdate.TheVariants.{AddViewVersion}
use Rattle.view.specs.Meaning.{Reading, given, model_of, change_of, schema_of}
use Rattle.view.specs.Steps.{with_versions, with_last_version}
use Rattle.view.specs.Versions.{admitted, admitted_under}
use Rattle.view.specs.Plans.{version_given}
use Rattle.view.proofs.Recording.{one_more}
use Rattle.view.proofs.NewIds.{after_two, after_held, after_given, free_slot}

module _ {C : Type 0} where
  -- the tests of a new version that do not ask for its schema
  abbrev pub fresh : {A : Type 0} → State C → VersionIn → Result A Fault → Result A Fault
  fresh s x r = refuse (repeats same_bytes (dialects x.content)) (fault repeated_dialect versions_part) (refuse (too_early_for x.time s.metadata.version_log) (fault time_too_early versions_part) r)

  -- what follows them
  pub after_fresh : {A B : Type 0} (s : State C) (x : VersionIn) (r : Result A Fault) (a : A) (k : A → Result B Fault) → r ≡ fresh s x (Ok a) → then r k ≡ fresh s x (k a)
  after_fresh s x r a k e =
      ap (λ z. then z k) e
      ∙ after_two (repeats same_bytes (dialects x.content)) (too_early_for x.time s.metadata.version_log) (fault repeated_dialect versions_part) (fault time_too_early versions_part) a k

  -- what follows the tests of a new version
  abbrev numbered : State C → VersionIn → Result (State C) Fault
  numbered s x =
      let n : VersionIn = with_next_version_id s x in
      refuse (ids_used_up (version_ids s.metadata.versions)) (fault no_id_left versions_part) (
      refuse (full s.rooms.versions s.metadata.versions) (fault limit_reached versions_part) (
      recorded (version_added (as_recorded s n)) (
      updates.with_last_version n.id (with_metadata (updates.with_versions (s.metadata.versions ++ stored_version n ∷ []) s.metadata) s))))

  after_three : {A B : Type 0} (p : Bool) (e : Fault) (s : State C) (x : VersionIn) (a : A) (k : A → Result B Fault) → refuse p e (fresh s x (k a)) ≡ then (refuse p e (fresh s x (Ok a))) k
  after_three true e s x a k = refl
  after_three false e s x a k = sym (after_fresh s x (fresh s x (Ok a)) a k refl)

  enter_by : (s : State C) (x : VersionIn) (o : Option ℤ) → enter_under s x o ≡ then (admitted s x o) (λ i. numbered s (with_schema_id i x))
  unfolding enter
  enter_by s x None = refl
  enter_by s x (Some i) = after_three (not (holds i (schema_ids s.metadata.schemas))) (fault schema_not_held versions_part) s x i (λ z. numbered s (with_schema_id z x))

-- the form in which it is recorded, as the model has it
form_in : (block : Bytes) (q : Bool) (i j : ℤ) (v : ViewVersion) →
    let y : ViewVersion = renumbered j (of_schema i v) in
    version_in block (of_schema (cond q last_added i) y) ≡ cond q (with_schema_id last_added (version_in block y)) (version_in block y)
form_in block true i j v = refl
form_in block false i j v = refl

module _ {X : Type 0} (g : Reading X) (b : ViewMetadataBuilder X) (v : ViewVersion) where
  abbrev block : Bytes
  block = b.view.text.now

  abbrev held : List ViewVersion
  held = held_in b.view.versions.table

  -- what is handed in
  abbrev handed : VersionIn
  handed = version_in block v

  pub version_noted : (j : ℤ) (y : ViewVersion) → is_id b.last_added_version_id j ≡ false → y ≡ renumbered j v →
      reuse_or_add_version (model_of g b) handed (Some j) ≡ recorded (change_of g block (AddViewVersion y)) (model_of g (with_last_version j b))
  version_noted j y h e = simp h (ap (λ z. recorded (version_added (version_in block z)) (model_of g (with_last_version j b))) (sym e))

  -- what follows the search for a held one
  pub version_held : {B : Type 0} (r : Result (Option ℤ) Fault) (k : Option ℤ → Result B Fault) →
      r ≡ refuse_with versions_part handed.verdict (Ok (lowest_id_where (λ t. t.version_id) (λ t. same_content (content_of block t) (content_of block v)) held)) →
      then r k ≡ refuse_with versions_part handed.verdict (k (lowest_id_where (λ t. t.id) (λ t. same_content t.content (content_of block v)) (map (version_of block) held)))
  version_held r k e = after_held (version_of block) (λ t. t.id) versions_part (λ t. same_content t.content (content_of block v)) held handed.verdict r k e

  -- the add, by what that search answers
  pub version_added_by : (clock : ℤ) (r : Result (Option ℤ) Fault) → r ≡ refuse_with versions_part handed.verdict (Ok (lowest_id_where (λ t. t.version_id) (λ t. same_content (content_of block t) (content_of block v)) held)) →
      then r (reuse_or_add_version (model_of g b) handed) ≡ edit g.alike (model_of g b) (add_version handed) clock
  unfolding edit after_add_version
  version_added_by clock r e = version_held r (reuse_or_add_version (model_of g b) handed) e

  -- a version is admitted under the schema id that was resolved
  pub admitted_by : (i : ℤ) (there : Bool) (r : Result (Unit {0}) Fault) → Some i ≡ resolved_id v.schema_id b.last_added_schema_id → there ≡ holds i (map g.named (held_in b.view.schemas.table)) →
      r ≡ fresh (model_of g b) handed (Ok tt) → refuse (not there) (fault schema_not_held versions_part) (then r (λ _. Ok i)) ≡ admitted_under (model_of g b) handed
  admitted_by i there r o h e =
      (λ j. refuse (not ((h ∙ sym (ap (holds i) (map-map (λ t. t.id) (schema_of g block) (held_in b.view.schemas.table)))) j)) (fault schema_not_held versions_part) (after_fresh (model_of g b) handed r tt (λ _. Ok i) e j))
      ∙ ap (admitted (model_of g b) handed) o

  pub not_admitted : (f : Fault) → Err f ≡ admitted_under (model_of g b) handed → reuse_or_add_version (model_of g b) handed None ≡ Err f
  not_admitted f e =
      enter_by (model_of g b) handed (resolved_id v.schema_id b.last_added_schema_id) ∙ ap (λ z. then z (λ i. numbered (model_of g b) (with_schema_id i handed))) (sym e)

  -- the id that a new version gets
  abbrev new_id : Result ℤ RegisterFault
  new_id = cond (ids_used_up (map (λ t. t.version_id) held)) (Err NoIdLeft) (cond (is_full b.view.versions.table) (Err Full) (Ok (next_id (pos 1) (map (λ t. t.version_id) held))))

  -- the choice of a new one
  pub version_new : (t : Result (Unit {0}) Fault) (r : Result ℤ Fault) → t ≡ fresh (model_of g b) handed (Ok tt) → r ≡ given versions_part new_id →
      then t (λ _. then r (λ j. Ok (j, true))) ≡ version_given (model_of g b) handed None
  version_new t r p e =
      after_fresh (model_of g b) handed t tt (λ _. then r (λ j. Ok (j, true))) p
      ∙ ap (fresh (model_of g b) handed) (after_given (version_of block) (λ t. t.id) versions_part b.view.versions.table (pos 1) r (λ j. Ok (j, true)) e)

  -- the state after the add, by its parts
  abbrev shaped : VersionIn → List Version → ℕ → ℤ → Result (State g.Content) Fault
  shaped z vs r j =
      let s : State g.Content = model_of g b in
      recorded (version_added z)
      (state_of (updates.with_versions vs s.metadata) s.versions_at_start s.previous_version s.last_added_schema (Some j) s.pending_entry s.changes
      (record { schemas = s.rooms.schemas; versions = r; version_log = s.rooms.version_log; properties = s.rooms.properties; changes = s.rooms.changes }))

  module _ (i : ℤ) (passed : Ok i ≡ admitted_under (model_of g b) handed) where
    -- the new one under an id
    abbrev entered : ℤ → Result (State g.Content) Fault
    entered j =
        let n : VersionIn = version_with_id j (with_schema_id i handed) in
        shaped (as_recorded (model_of g b) n) (map (version_of block) held ++ stored_version n ∷ []) (room b.view.versions.table) j

    module _ (r : Result ℤ Fault) (is : r ≡ given versions_part new_id) where
      entering : reuse_or_add_version (model_of g b) handed None ≡ then r entered
      entering =
          enter_by (model_of g b) handed (resolved_id v.schema_id b.last_added_schema_id)
          ∙ (ap (λ z. then z (λ j. numbered (model_of g b) (with_schema_id j handed))) (sym passed)
          ∙ sym (after_given (version_of block) (λ t. t.id) versions_part b.view.versions.table (pos 1) r entered is))

      pub not_numbered : (f : Fault) → r ≡ Err f → reuse_or_add_version (model_of g b) handed None ≡ Err f
      not_numbered f e = entering ∙ ap (λ z. then z entered) e

      pub version_entered : (j : ℤ) (y w : ViewVersion) → r ≡ Ok j → y ≡ renumbered j (of_schema i v) → w ≡ of_schema (cond (is_id b.last_added_schema_id i) last_added i) y →
          reuse_or_add_version (model_of g b) handed None
          ≡ recorded (change_of g block (AddViewVersion w)) (model_of g (with_last_version j (with_versions (pushed y b.view.versions) b)))
      version_entered j y w e q m =
          let free : is_full b.view.versions.table ≡ false = free_slot versions_part (ids_used_up (map (λ t. t.version_id) held)) (is_full b.view.versions.table) j (next_id (pos 1) (map (λ t. t.version_id) held)) (sym e ∙ is) in
          let eV : version_in block y ≡ version_with_id j (with_schema_id i handed) = ap (version_in block) q in
          let eW : version_in block w ≡ as_recorded (model_of g b) (version_with_id j (with_schema_id i handed)) =
          ap (version_in block) (m ∙ ap (of_schema (cond (is_id b.last_added_schema_id i) last_added i)) q) ∙ form_in block (is_id b.last_added_schema_id i) i j v in
          let eT : map (version_of block) (held_in (after_push b.view.versions.table y)) ≡ map (version_of block) held ++ stored_version (version_with_id j (with_schema_id i handed)) ∷ [] =
          ap (λ z. map (version_of block) (held_in (cond z b.view.versions.table (with_one_more b.view.versions.table y)))) free
          ∙ (one_more (version_of block) b.view.versions.table y free ∙ ap (λ t. map (version_of block) held ++ stored_version t ∷ []) eV) in
          let eR : room (after_push b.view.versions.table y) ≡ room b.view.versions.table = ap (λ z. room (cond z b.view.versions.table (with_one_more b.view.versions.table y))) free ∙ simp length-set in
          entering ∙ (ap (λ z. then z entered) e ∙ sym (λ h. shaped (eW h) (eT h) (eR h) j))
