-- Each accepted edit is a step, and keeps what holds of every reachable state. Assumes nothing.
use Rattle.std.proofs.Common.{◌≡◌, ℕ, ◌+◌, ◌<◌, ◌≤◌, Bool, true, false, cond, not, eqb, List, [], ◌∷◌, ◌++◌, length, drop, ℤ, pos, ◌≤ℤ◌, ◌<ℤ◌, Some, None, Ok, Err, Option, Result, sym, refl, ap, ◌∙◌, subst, ap₂, subst₂, arith, length-append}
use lib.Seq.{drop-append-le}
use Rattle.std.proofs.lemmas.List.{append-nil}
use Rattle.std.proofs.lemmas.Bool.{leb-false, not-false}
use Rattle.std.proofs.ByRecursion.{All-push}
use Rattle.std.specs.List.{AllByRecursion}
use Rattle.model.specs.Bytes.{Bytes, trimmed, unless_slash, same_list, same_bytes, repeats}
use Rattle.model.specs.Version.{Property, Version, LogEntry, Schema, Sameness, same_property, dialects, version_ids, schema_ids}
use Rattle.model.specs.Refusals.{version_not_held, Fault, fault, refuse, refuse_with, then, full, over, schemas_part, versions_part, builder_part}
use Rattle.model.specs.State.{Text, SchemaIn, VersionIn, Edit, Change, State, entered, upgrade_format, set_location, assign_uuid, add_schema, add_version, set_current_version_id, set_current_version, set_properties, remove_properties, uuid_assigned, location_set, schema_added, version_added, current_version_id_set, properties_set, properties_removed}
use Rattle.model.specs.Updates.{version_with_id, with_schema_id, stored_version, schema_with_id, stored_schema, with_uuid, with_location, with_current, with_schemas, with_versions, with_properties, with_metadata, with_last_schema, with_last_version, with_pending, with_change, recorded}
use Rattle.model.specs.Edits.{too_early_for, id_or_minus_one, after_set_location, after_assign_uuid, after_set_properties, after_remove_properties, reuse_or_add_schema, after_add_schema, equal_version, read_all, without, properties_after, properties_shrink_to, with_next_version_id, as_recorded, enter, enter_under, reuse_or_add_version, after_add_version, id_as_recorded, log_entry, set_current_to, after_set_current, under_last_added_schema, edit}
use Rattle.model.specs.Build.{additions, state_or, Timed, run}
use Rattle.model.specs.Replay.{apply_all, at_index, edit_of}
use Rattle.model.specs.Law.{Ascending, Event, was_entered, was_reused, was_chosen, additions_in, event_id, reused_or_entered, add_event, events, if_accepted, events_of}
use Rattle.model.proofs.Basics.{same_true, ok_not_err, ok_is, refuse_ok, refuse_with_ok, is_number_true, named_as_is}
use Rattle.model.proofs.Events.{last_after, additions_append}
use Rattle.model.proofs.Step.{Step, stay, follow}
use Rattle.model.proofs.Again.{through, relocated_again, assigned_again, set_again, removed_again, schema_again, version_again}
use Rattle.model.proofs.Register.{below_next, next_not_negative, rising_push, ids_push, schema_ids_push, held_not_last, meets_none}
use Rattle.model.specs.Ids.{same_number, is_id, last_added, lowest, next_id, ids_used_up, lowest_id_where, resolved_id, holds}
use Rattle.model.specs.Limits.{most_in_call}

-- what holds of every reachable state
pub record Reached {C : Type 0} (s : State C) : Type 0 where
  pub within : s.versions_at_start ≤ length s.metadata.versions
  pub schemas_not_negative : AllByRecursion (λ i. pos 0 ≤ℤ i) (schema_ids s.metadata.schemas)
  pub versions_name : AllByRecursion (λ v. same_number v.content.schema_id last_added ≡ false) s.metadata.versions
  pub rising : Ascending (version_ids s.metadata.versions)
  pub log_fits : length s.metadata.version_log < s.rooms.version_log
  pub changes_fit : length s.changes ≤ s.rooms.changes

trimmed_onto : (b : ℕ) (bs : Bytes) → trimmed bs ≡ bs → trimmed (unless_slash b bs) ≡ unless_slash b bs
trimmed_onto b [] e = go (eqb b 47) refl
  where
    go : (t : Bool) → eqb b 47 ≡ t → trimmed (cond t [] (b ∷ [])) ≡ cond t [] (b ∷ [])
    go true h = refl
    go false h = rw h
trimmed_onto b (c ∷ cs) e = ap (unless_slash b) e

trimmed_twice : (bs : Bytes) → trimmed (trimmed bs) ≡ trimmed bs
trimmed_twice [] = refl
trimmed_twice (b ∷ bs) = trimmed_onto b (trimmed bs) (trimmed_twice bs)

module _ {C : Type 0} where
  recorded_ok : (c : Change C) (s t : State C) → recorded c s ≡ Ok t → (length s.changes < s.rooms.changes) × (t ≡ with_change c s)
  recorded_ok c s t e =
      let r = refuse_ok (full s.rooms.changes s.changes) _ (Ok (with_change c s)) t e in
      (leb-false s.rooms.changes (length s.changes) r.0, sym (ok_is r.1))

  fits_push : (n : ℕ) (cs : List (Change C)) (c : Change C) → length cs < n → length (cs ++ c ∷ []) ≤ n
  fits_push n cs c h = omega (arith, length-append cs (c ∷ []))

  plain : (cs : List (Change C)) (c : Change C) → additions (c ∷ []) ≡ 0 → additions (cs ++ c ∷ []) ≡ additions cs + 0
  plain cs c e = additions_append cs (c ∷ []) ∙ ap (λ n. additions cs + n) e

  once : (k : Sameness C) (i : ℕ) (s t : State C) (c : Change C) (clock : ℤ) → edit k s (edit_of c) clock ≡ Ok t → apply_all k i s (c ∷ []) clock ≡ Ok t
  once k i s t c clock e = ap (λ r. then (at_index i r) (λ u. Ok u)) e

  -- what an accepted edit leads to
  abbrev pub Leads : (k : Sameness C) → State C → State C → List Event → Type 0
  Leads k s t es = Step k s t es × Reached t

  lead_stay : (k : Sameness C) (s t : State C) → Reached s → ◌≡◌ {A = Result (State C) Fault} (Ok s) (Ok t) → Leads k s t []
  lead_stay k s t h e = subst (λ u. Leads k s u []) (ok_is e) (stay k s, h)

  -- u differs from s in nothing that events speak of
  record Quiet (s u : State C) : Type 0 where
    rooms_same : u.rooms ≡ s.rooms
    opened_same : u.versions_at_start ≡ s.versions_at_start
    log_same : u.metadata.version_log ≡ s.metadata.version_log
    current_same : u.metadata.current_version_id ≡ s.metadata.current_version_id
    versions_same : u.metadata.versions ≡ s.metadata.versions
    last_same : u.last_added_version ≡ s.last_added_version
    changes_same : u.changes ≡ s.changes
    pending_same : u.pending_entry ≡ s.pending_entry
    schemas_good : AllByRecursion (λ i. pos 0 ≤ℤ i) (schema_ids u.metadata.schemas)

  -- an edit with no event that records one change, which does the same again
  lead_noted : (k : Sameness C) (s u t : State C) (c : Change C) → Reached s → Quiet s u → additions (c ∷ []) ≡ 0 → recorded c u ≡ Ok t →
      ((p : Option LogEntry) (clock : ℤ) → edit k (with_pending p s) (edit_of c) clock ≡ Ok (with_pending p t)) → Leads k s t []
  lead_noted k s u t c h q zero_more e again =
      let r = recorded_ok c u t e in
      let is : t ≡ with_change c u = r.1 in
      let changes_is : t.changes ≡ s.changes ++ c ∷ [] = ap (λ x. x.changes) is ∙ ap (λ cs. cs ++ c ∷ []) q.changes_same in
      let versions_is : t.metadata.versions ≡ s.metadata.versions = ap (λ x. x.metadata.versions) is ∙ q.versions_same in
      let log_is : t.metadata.version_log ≡ s.metadata.version_log = ap (λ x. x.metadata.version_log) is ∙ q.log_same in
      let rooms_are : t.rooms ≡ s.rooms = ap (λ x. x.rooms) is ∙ q.rooms_same in
      let opened_is : t.versions_at_start ≡ s.versions_at_start = ap (λ x. x.versions_at_start) is ∙ q.opened_same in
      let few : length s.changes < s.rooms.changes = subst₂ (λ cs n. length cs < n) q.changes_same (ap (λ x. x.changes) q.rooms_same) r.0 in (
        record {
          rooms_are = rooms_are;
          opened_is = opened_is;
          log_is = log_is;
          current_is = ap (λ x. x.metadata.current_version_id) is ∙ q.current_same;
          versions_are = versions_is ∙ sym (append-nil s.metadata.versions);
          entered_are = ap₂ drop opened_is versions_is ∙ sym (append-nil (entered s));
          last_is = ap (λ x. x.last_added_version) is ∙ q.last_same;
          additions_are = ap additions changes_is ∙ plain s.changes c zero_more;
          pending_is = ap (λ x. x.pending_entry) is ∙ q.pending_same;
          did = c ∷ [];
          changes_are = changes_is;
          chose = None;
          again = λ i p clock. once k i (with_pending p s) (with_pending p t) c clock (again p clock);
          pending_own = ap (λ x. x.pending_entry) is ∙ q.pending_same;
          changed_is = λ so_far. refl;
        },
        record {
          within = subst₂ (λ n vs. n ≤ length vs) (sym opened_is) (sym versions_is) h.within;
          schemas_not_negative = subst (λ ts. AllByRecursion (λ i. pos 0 ≤ℤ i) (schema_ids ts)) (sym (ap (λ x. x.metadata.schemas) is)) q.schemas_good;
          versions_name = subst (AllByRecursion (λ v. same_number v.content.schema_id last_added ≡ false)) (sym versions_is) h.versions_name;
          rising = subst (λ vs. Ascending (version_ids vs)) (sym versions_is) h.rising;
          log_fits = subst₂ (λ es r. length es < r.version_log) (sym log_is) (sym rooms_are) h.log_fits;
          changes_fit = subst₂ (λ cs n. length cs ≤ n) (sym changes_is) (ap (λ x. x.changes) (sym rooms_are)) (fits_push s.rooms.changes s.changes c few);
        },
      )

  -- set location
  located : (k : Sameness C) (s t : State C) (x : Text) → Reached s → after_set_location s x ≡ Ok t → Leads k s t []
  unfolding after_set_location edit
  located k s t None h e = ok_not_err e
  located k s t (Some b) h e = go (same_bytes (trimmed b) s.metadata.location) refl e
    where
      go : (same : Bool) → same_bytes (trimmed b) s.metadata.location ≡ same → cond same (Ok s) (recorded (location_set (Some (trimmed b))) (with_metadata (with_location (trimmed b) s.metadata) s)) ≡ Ok t → Leads k s t []
      go true q e' = lead_stay k s t h e'
      go false q e' =
          lead_noted k s (with_metadata (with_location (trimmed b) s.metadata) s) t (location_set (Some (trimmed b))) h
          (record { rooms_same = refl; opened_same = refl; log_same = refl; current_same = refl; versions_same = refl; last_same = refl; changes_same = refl; pending_same = refl; schemas_good = h.schemas_not_negative })
          refl e'
          (λ p clock. relocated_again p s (Some (trimmed b)) ∙ ap (through (with_pending p)) (again ∙ e))
        where
          again : after_set_location s (Some (trimmed b)) ≡ after_set_location s (Some b)
          again = ap (λ x. cond (same_bytes x s.metadata.location) (Ok s) (recorded (location_set (Some x)) (with_metadata (with_location x s.metadata) s))) (trimmed_twice b)

  -- assign uuid
  uuid_given : (k : Sameness C) (s t : State C) (u : Bytes) → Reached s → after_assign_uuid s u ≡ Ok t → Leads k s t []
  unfolding after_assign_uuid edit
  uuid_given k s t u h e = go (same_bytes u s.metadata.uuid) refl e
    where
      go : (same : Bool) → same_bytes u s.metadata.uuid ≡ same → cond same (Ok s) (recorded (uuid_assigned u) (with_metadata (with_uuid u s.metadata) s)) ≡ Ok t → Leads k s t []
      go true q e' = lead_stay k s t h e'
      go false q e' =
          lead_noted k s (with_metadata (with_uuid u s.metadata) s) t (uuid_assigned u) h
          (record { rooms_same = refl; opened_same = refl; log_same = refl; current_same = refl; versions_same = refl; last_same = refl; changes_same = refl; pending_same = refl; schemas_good = h.schemas_not_negative })
          refl e'
          (λ p clock. assigned_again p s u ∙ ap (through (with_pending p)) e)

  properties_step : (k : Sameness C) (s t : State C) (c : Change C) (new : List Property) → Reached s → additions (c ∷ []) ≡ 0 → recorded c (with_metadata (with_properties new s.metadata) s) ≡ Ok t →
      ((p : Option LogEntry) (clock : ℤ) → edit k (with_pending p s) (edit_of c) clock ≡ Ok (with_pending p t)) → Leads k s t []
  properties_step k s t c new h z e again =
      lead_noted k s (with_metadata (with_properties new s.metadata) s) t c h
      (record { rooms_same = refl; opened_same = refl; log_same = refl; current_same = refl; versions_same = refl; last_same = refl; changes_same = refl; pending_same = refl; schemas_good = h.schemas_not_negative })
      z e again

  -- set properties
  properties_given : (k : Sameness C) (s t : State C) (xs : List (Option Property)) → Reached s → after_set_properties s xs ≡ Ok t → Leads k s t []
  unfolding after_set_properties edit
  properties_given k s t xs h e = go (properties_after s.rooms.properties xs s.metadata.properties) e
    where
      finish : (new : List Property) (same : Bool) → cond same (Ok s) (recorded (properties_set xs) (with_metadata (with_properties new s.metadata) s)) ≡ Ok t → Leads k s t []
      finish new true e' = lead_stay k s t h e'
      finish new false e' = properties_step k s t (properties_set xs) new h refl e' (λ p clock. set_again p s xs ∙ ap (through (with_pending p)) e)

      go : (r : Result (List Property) Fault) →
          then r (λ new. cond (same_list same_property new s.metadata.properties) (Ok s) (recorded (properties_set xs) (with_metadata (with_properties new s.metadata) s))) ≡ Ok t → Leads k s t []
      go (Err f) e' = ok_not_err e'
      go (Ok new) e' = finish new (same_list same_property new s.metadata.properties) e'

  -- remove properties
  properties_taken : (k : Sameness C) (s t : State C) (xs : List Text) → Reached s → after_remove_properties s xs ≡ Ok t → Leads k s t []
  unfolding after_remove_properties edit
  properties_taken k s t xs h e = read (read_all 0 xs) (refuse_ok (over most_in_call xs) _ _ t e).1
    where
      finish : (left : List Property) (same : Bool) → cond same (Ok s) (recorded (properties_removed xs) (with_metadata (with_properties left s.metadata) s)) ≡ Ok t → Leads k s t []
      finish left true e' = lead_stay k s t h e'
      finish left false e' = properties_step k s t (properties_removed xs) left h refl e' (λ p clock. removed_again p s xs ∙ ap (through (with_pending p)) e)

      read : (r : Result (List Bytes) Fault) → then r (λ ks. properties_shrink_to s xs (without ks s.metadata.properties)) ≡ Ok t → Leads k s t []
      read (Err f) e' = ok_not_err e'
      read (Ok ks) e' = finish (without ks s.metadata.properties) (eqb (length (without ks s.metadata.properties)) (length s.metadata.properties)) e'

  -- add schema
  schema_given : (k : Sameness C) (s t : State C) (x : SchemaIn C) → Reached s → after_add_schema k s x ≡ Ok t → Leads k s t []
  unfolding after_add_schema edit
  schema_given k s t x h e = put_property (lowest_id_where (λ t. t.id) (λ t. k t.content x.content) s.metadata.schemas) (refuse_with_ok schemas_part x.verdict _ t e)
    where
      again : (p : Option LogEntry) → after_add_schema k (with_pending p s) x ≡ Ok (with_pending p t)
      again p = schema_again p s k x ∙ ap (through (with_pending p)) e

      quiet : (ts : List (Schema C)) (i : ℤ) → AllByRecursion (λ j. pos 0 ≤ℤ j) (schema_ids ts) → Quiet s (with_last_schema i (with_metadata (with_schemas ts s.metadata) s))
      quiet ts i a = record { rooms_same = refl; opened_same = refl; log_same = refl; current_same = refl; versions_same = refl; last_same = refl; changes_same = refl; pending_same = refl; schemas_good = a }

      reuse : (i : ℤ) → (b : Bool) → cond b (Ok s) (recorded (schema_added (schema_with_id i x) None) (with_last_schema i s)) ≡ Ok t → Leads k s t []
      reuse i true e' = lead_stay k s t h e'
      reuse i false e' = lead_noted k s (with_last_schema i s) t (schema_added (schema_with_id i x) None) h (quiet s.metadata.schemas i h.schemas_not_negative) refl e' (λ p clock. again p)

      put_property : (o : Option ℤ) → reuse_or_add_schema s x o ≡ Ok t → Leads k s t []
      put_property (Some i) e' = reuse i (is_id s.last_added_schema i) e'
      put_property None e' =
          let n : SchemaIn C = schema_with_id (next_id (pos 0) (schema_ids s.metadata.schemas)) x in
          let ts : List (Schema C) = s.metadata.schemas ++ stored_schema n ∷ [] in
          lead_noted k s (with_last_schema n.id (with_metadata (with_schemas ts s.metadata) s)) t (schema_added n (Some x.greatest_field)) h
          (quiet ts n.id
          (subst (AllByRecursion (λ j. pos 0 ≤ℤ j)) (sym (schema_ids_push s.metadata.schemas (stored_schema n)))
          (All-push (λ j. pos 0 ≤ℤ j) (schema_ids s.metadata.schemas) n.id h.schemas_not_negative (next_not_negative (schema_ids s.metadata.schemas) h.schemas_not_negative))))
          refl (refuse_ok (full s.rooms.schemas s.metadata.schemas) _ _ t (refuse_ok (ids_used_up (schema_ids s.metadata.schemas)) _ _ t e').1).1 (λ p clock. again p)

  -- a new version, added again as it was recorded, is entered the same way
  shown_again : (s : State C) (x : VersionIn) (j : ℤ) → Reached s → equal_version s x.content ≡ None → resolved_id x.content.schema_id s.last_added_schema ≡ Some j →
      after_add_version s (as_recorded s (with_next_version_id s (with_schema_id j x))) ≡ refuse_with versions_part x.verdict (enter s (with_schema_id j x))
  unfolding after_add_version enter
  shown_again s x j h none is = go (is_id s.last_added_schema j) refl
    where
      go : (b : Bool) → is_id s.last_added_schema j ≡ b →
          after_add_version s (cond b (with_schema_id last_added (with_next_version_id s (with_schema_id j x))) (with_next_version_id s (with_schema_id j x))) ≡ refuse_with versions_part x.verdict (enter s (with_schema_id j x))
      go true q =
          let y : VersionIn = with_schema_id last_added (with_next_version_id s x) in
          ap (refuse_with versions_part x.verdict)
          (ap (reuse_or_add_version s y) (ap (λ vs. lowest (version_ids vs)) (meets_none y.content s.metadata.versions refl h.versions_name))
          ∙ ap (enter_under s y) (is_number_true s.last_added_schema j q))
      go false q =
          let same : x.content.schema_id ≡ j = (named_as_is x.content.schema_id j s.last_added_schema is q).0 in
          subst (λ i. after_add_version s (with_next_version_id s (with_schema_id i x)) ≡ refuse_with versions_part x.verdict (enter s (with_schema_id j x))) same
          (ap (refuse_with versions_part x.verdict) (ap (reuse_or_add_version s (with_next_version_id s x)) none ∙ ap (enter_under s (with_next_version_id s x)) is))

  -- an add that reuses the version last added
  reused_last : (k : Sameness C) (s : State C) (i : ℤ) → Reached s → is_id s.last_added_version i ≡ true → Leads k s s (was_reused i ∷ [])
  reused_last k s i h q =
      let z : additions_in s.last_added_version (was_reused i ∷ []) ≡ 0 = ap (λ b. cond {A = ℕ} b 0 1) q in (
        record {
          rooms_are = refl;
          opened_is = refl;
          log_is = refl;
          current_is = refl;
          versions_are = sym (append-nil s.metadata.versions);
          entered_are = sym (append-nil (entered s));
          last_is = sym (ap (λ b. cond b s.last_added_version (Some i)) q);
          additions_are = omega arith;
          pending_is = refl;
          did = [];
          changes_are = sym (append-nil s.changes);
          chose = None;
          again = λ n p clock. refl;
          pending_own = refl;
          changed_is = λ so_far. refl;
        },
        h,
      )

  -- an add that reuses another version
  reused_other : (k : Sameness C) (s : State C) (i : ℤ) (v : VersionIn) → Reached s → is_id s.last_added_version i ≡ false → length s.changes < s.rooms.changes →
      ((p : Option LogEntry) (clock : ℤ) → edit k (with_pending p s) (edit_of (version_added v)) clock ≡ Ok (with_pending p (with_change (version_added v) (with_last_version i s)))) →
      Leads k s (with_change (version_added v) (with_last_version i s)) (was_reused i ∷ [])
  reused_other k s i v h q few again =
      let z : additions_in s.last_added_version (was_reused i ∷ []) ≡ 1 = ap (λ b. cond {A = ℕ} b 0 1) q in (
        record {
          rooms_are = refl;
          opened_is = refl;
          log_is = refl;
          current_is = refl;
          versions_are = sym (append-nil s.metadata.versions);
          entered_are = sym (append-nil (entered s));
          last_is = sym (ap (λ b. cond b s.last_added_version (Some i)) q);
          additions_are = omega (arith, additions_append s.changes (version_added v ∷ []));
          pending_is = refl;
          did = version_added v ∷ [];
          changes_are = refl;
          chose = None;
          again = λ n p clock. once k n (with_pending p s) _ (version_added v) clock (again p clock);
          pending_own = refl;
          changed_is = λ so_far. refl;
        },
        record { within = h.within; schemas_not_negative = h.schemas_not_negative; versions_name = h.versions_name; rising = h.rising; log_fits = h.log_fits; changes_fit = fits_push s.rooms.changes s.changes (version_added v) few },
      )

  -- a version entered as new
  entered_new : (k : Sameness C) (s : State C) (n : Version) (v : VersionIn) → Reached s → n.id ≡ next_id (pos 1) (version_ids s.metadata.versions) → same_number n.content.schema_id last_added ≡ false →
      length s.changes < s.rooms.changes →
      ((p : Option LogEntry) (clock : ℤ) → edit k (with_pending p s) (edit_of (version_added v)) clock ≡ Ok (with_pending p (with_change (version_added v) (with_last_version n.id (with_metadata (with_versions (s.metadata.versions ++ n ∷ []) s.metadata) s))))) →
      Leads k s (with_change (version_added v) (with_last_version n.id (with_metadata (with_versions (s.metadata.versions ++ n ∷ []) s.metadata) s))) (was_entered n ∷ [])
  entered_new k s n v h is_next names few again = (
    record {
      rooms_are = refl;
      opened_is = refl;
      log_is = refl;
      current_is = refl;
      versions_are = refl;
      entered_are = drop-append-le s.versions_at_start s.metadata.versions (n ∷ []) h.within;
      last_is = refl;
      additions_are = omega (arith, additions_append s.changes (version_added v ∷ []));
      pending_is = refl;
      did = version_added v ∷ [];
      changes_are = refl;
      chose = None;
      again = λ i p clock. once k i (with_pending p s) _ (version_added v) clock (again p clock);
      pending_own = refl;
      changed_is = λ so_far. refl;
    },
    record {
      within = omega (arith, length-append s.metadata.versions (n ∷ []), h.within);
      schemas_not_negative = h.schemas_not_negative;
      versions_name = All-push (λ w. same_number w.content.schema_id last_added ≡ false) s.metadata.versions n h.versions_name names;
      rising = subst Ascending (sym (ids_push s.metadata.versions n))
          (rising_push (version_ids s.metadata.versions) n.id h.rising (subst (λ i. AllByRecursion (λ j. j <ℤ i) (version_ids s.metadata.versions)) (sym is_next) (below_next (pos 1) (version_ids s.metadata.versions))));
      log_fits = h.log_fits;
      changes_fit = fits_push s.rooms.changes s.changes (version_added v) few;
    },
  )

  -- add version
  version_given : (k : Sameness C) (s t : State C) (x : VersionIn) → Reached s → after_add_version s x ≡ Ok t → Leads k s t (add_event s x ∷ [])
  unfolding after_add_version edit enter
  version_given k s t x h e = put_property (equal_version s x.content) refl (refuse_with_ok versions_part x.verdict _ t e)
    where
      again : (p : Option LogEntry) → after_add_version (with_pending p s) x ≡ Ok (with_pending p t)
      again p = version_again p s x ∙ ap (through (with_pending p)) e

      reuse : (i : ℤ) (b : Bool) → is_id s.last_added_version i ≡ b → cond b (Ok s) (recorded (version_added (version_with_id i x)) (with_last_version i s)) ≡ Ok t → Leads k s t (was_reused i ∷ [])
      reuse i true q e' = subst (λ u. Leads k s u (was_reused i ∷ [])) (ok_is e') (reused_last k s i h q)
      reuse i false q e' =
          let r = recorded_ok (version_added (version_with_id i x)) (with_last_version i s) t e' in
          subst (λ u. Leads k s u (was_reused i ∷ [])) (sym r.1)
          (reused_other k s i (version_with_id i x) h q r.0 (λ p clock. again p ∙ ap (λ u. Ok (with_pending p u)) r.1))

      enters : (j : ℤ) → equal_version s x.content ≡ None → resolved_id x.content.schema_id s.last_added_schema ≡ Some j → enter s (with_schema_id j x) ≡ Ok t →
          Leads k s t (was_entered (stored_version (with_next_version_id s (with_schema_id j x))) ∷ [])
      enters j none is e' =
          let y : VersionIn = with_schema_id j x in
          let n : VersionIn = with_next_version_id s y in
          let t6 = refuse_ok (not (holds j (schema_ids s.metadata.schemas))) _ _ t e' in
          let t10 = refuse_ok (repeats same_bytes (dialects y.content)) _ _ t t6.1 in
          let t11 = refuse_ok (too_early_for x.time s.metadata.version_log) _ _ t t10.1 in
          let t14 = refuse_ok (ids_used_up (version_ids s.metadata.versions)) _ _ t t11.1 in
          let t15 = refuse_ok (full s.rooms.versions s.metadata.versions) _ _ t t14.1 in
          let r = recorded_ok (version_added (as_recorded s n)) (with_last_version n.id (with_metadata (with_versions (s.metadata.versions ++ stored_version n ∷ []) s.metadata) s)) t t15.1 in
          let here : after_add_version s x ≡ refuse_with versions_part x.verdict (enter s y) = ap (refuse_with versions_part x.verdict) (ap (reuse_or_add_version s x) none ∙ ap (enter_under s x) is) in
          subst (λ u. Leads k s u (was_entered (stored_version n) ∷ [])) (sym r.1)
          (entered_new k s (stored_version n) (as_recorded s n) h refl (held_not_last j s.metadata.schemas h.schemas_not_negative (not-false (holds j (schema_ids s.metadata.schemas)) t6.0)) r.0
          (λ p clock. version_again p s (as_recorded s n) ∙ ap (through (with_pending p)) (shown_again s x j h none is ∙ sym here ∙ e ∙ ap Ok r.1)))

      resolves : (o : Option ℤ) → equal_version s x.content ≡ None → resolved_id x.content.schema_id s.last_added_schema ≡ o → enter_under s x o ≡ Ok t →
          Leads k s t (was_entered (stored_version (with_next_version_id s (with_schema_id (id_or_minus_one o) x))) ∷ [])
      resolves None none is e' = ok_not_err e'
      resolves (Some j) none is e' = enters j none is e'

      put_property : (o : Option ℤ) → equal_version s x.content ≡ o → reuse_or_add_version s x o ≡ Ok t → Leads k s t (reused_or_entered s x o ∷ [])
      put_property (Some i) q e' = reuse i (is_id s.last_added_version i) refl e'
      put_property None q e' = resolves (resolved_id x.content.schema_id s.last_added_schema) q refl e'

  -- the recorded number names the same version again
  shown_named : (s : State C) (i j : ℤ) → resolved_id i s.last_added_version ≡ Some j → resolved_id (id_as_recorded s j) s.last_added_version ≡ Some j
  shown_named s i j is = go (is_id s.last_added_version j) refl
    where
      go : (b : Bool) → is_id s.last_added_version j ≡ b → resolved_id (cond b last_added j) s.last_added_version ≡ Some j
      go true q = is_number_true s.last_added_version j q
      go false q =
          let r = named_as_is i j s.last_added_version is q in
          ap (λ b. cond b s.last_added_version (Some j)) (ap (λ n. same_number n last_added) (sym r.0) ∙ r.1)

  -- a choice of the present id
  chosen_same : (k : Sameness C) (s : State C) (j clock : ℤ) → Reached s → same_number j s.metadata.current_version_id ≡ true → Leads k s s (was_chosen j clock ∷ [])
  chosen_same k s j clock h q = (
    record {
      rooms_are = refl;
      opened_is = refl;
      log_is = refl;
      current_is = sym (same_true j s.metadata.current_version_id q);
      versions_are = sym (append-nil s.metadata.versions);
      entered_are = sym (append-nil (entered s));
      last_is = refl;
      additions_are = omega arith;
      pending_is = sym (ap (λ b. cond b s.pending_entry (Some (log_entry (entered s) j clock))) q);
      did = [];
      changes_are = sym (append-nil s.changes);
      chose = None;
      again = λ n p c. refl;
      pending_own = refl;
      changed_is = λ so_far. ap (λ b. cond b so_far (Some clock)) q;
    },
    h,
  )

  choose_other : (s : State C) (j clock : ℤ) → same_number j s.metadata.current_version_id ≡ false → not (holds j (version_ids s.metadata.versions)) ≡ false → full s.rooms.changes s.changes ≡ false →
      set_current_to s clock (Some j) ≡ Ok (with_change (current_version_id_set (id_as_recorded s j)) (with_pending (Some (log_entry (entered s) j clock)) (with_metadata (with_current j s.metadata) s)))
  choose_other s j clock q held few = rw (q, held, few)

  -- a choice of another id
  chosen_other : (k : Sameness C) (s : State C) (i j clock : ℤ) → Reached s → same_number j s.metadata.current_version_id ≡ false → not (holds j (version_ids s.metadata.versions)) ≡ false → full s.rooms.changes s.changes ≡ false →
      resolved_id i s.last_added_version ≡ Some j →
      Leads k s (with_change (current_version_id_set (id_as_recorded s j)) (with_pending (Some (log_entry (entered s) j clock)) (with_metadata (with_current j s.metadata) s))) (was_chosen j clock ∷ [])
  unfolding after_set_current edit
  chosen_other k s i j clock h q held few is = (
    record {
      rooms_are = refl;
      opened_is = refl;
      log_is = refl;
      current_is = refl;
      versions_are = sym (append-nil s.metadata.versions);
      entered_are = sym (append-nil (entered s));
      last_is = refl;
      additions_are = plain s.changes (current_version_id_set (id_as_recorded s j)) refl;
      pending_is = sym (ap (λ b. cond b s.pending_entry (Some (log_entry (entered s) j clock))) q);
      did = current_version_id_set (id_as_recorded s j) ∷ [];
      changes_are = refl;
      chose = Some (record { clock = clock; entry_at = log_entry (entered s) j });
      again = λ n p c. once k n (with_pending p s) _ (current_version_id_set (id_as_recorded s j)) c
          (ap (set_current_to (with_pending p s) c) (shown_named s i j is) ∙ choose_other (with_pending p s) j c q held few);
      pending_own = refl;
      changed_is = λ so_far. ap (λ b. cond b so_far (Some clock)) q;
    },
    record {
      within = h.within;
      schemas_not_negative = h.schemas_not_negative;
      versions_name = h.versions_name;
      rising = h.rising;
      log_fits = h.log_fits;
      changes_fit = fits_push s.rooms.changes s.changes (current_version_id_set (id_as_recorded s j)) (leb-false s.rooms.changes (length s.changes) few);
    },
  )

  -- set current
  choice_made : (k : Sameness C) (s t : State C) (i clock : ℤ) → Reached s → after_set_current s i clock ≡ Ok t → Leads k s t (was_chosen (id_or_minus_one (resolved_id i s.last_added_version)) clock ∷ [])
  unfolding after_set_current edit
  choice_made k s t i clock h e = chooses (resolved_id i s.last_added_version) refl e
    where
      picks : (j : ℤ) → resolved_id i s.last_added_version ≡ Some j → (b : Bool) → same_number j s.metadata.current_version_id ≡ b →
          cond b (Ok s) (refuse (not (holds j (version_ids s.metadata.versions))) (fault version_not_held builder_part) (
          recorded (current_version_id_set (id_as_recorded s j)) (with_pending (Some (log_entry (entered s) j clock)) (with_metadata (with_current j s.metadata) s)))) ≡ Ok t → Leads k s t (was_chosen j clock ∷ [])
      picks j is true q e' = subst (λ u. Leads k s u (was_chosen j clock ∷ [])) (ok_is e') (chosen_same k s j clock h q)
      picks j is false q e' =
          let t9 = refuse_ok (not (holds j (version_ids s.metadata.versions))) _ _ t e' in
          let t15 = refuse_ok (full s.rooms.changes s.changes) _ _ t t9.1 in
          subst (λ u. Leads k s u (was_chosen j clock ∷ [])) (ok_is t15.1) (chosen_other k s i j clock h q t9.0 t15.0 is)

      chooses : (o : Option ℤ) → resolved_id i s.last_added_version ≡ o → set_current_to s clock o ≡ Ok t → Leads k s t (was_chosen (id_or_minus_one o) clock ∷ [])
      chooses None is e' = ok_not_err e'
      chooses (Some j) is e' = picks j is (same_number j s.metadata.current_version_id) refl e'

  -- the last added is the version of the add's event
  added_last : (last : Option ℤ) (s : State C) (x : VersionIn) (o : Option ℤ) → last_after last (reused_or_entered s x o ∷ []) ≡ Some (event_id (reused_or_entered s x o))
  added_last last s x None = refl
  added_last last s x (Some i) = go (is_id last i) refl
    where
      go : (b : Bool) → is_id last i ≡ b → cond b last (Some i) ≡ Some i
      go true q = is_number_true last i q
      go false q = refl

  -- set current version
  current_given : (k : Sameness C) (s t : State C) (x : SchemaIn C) (v : VersionIn) (clock : ℤ) → Reached s → edit k s (set_current_version x v) clock ≡ Ok t →
      Leads k s t (events k s (set_current_version x v) clock)
  unfolding edit events
  current_given k s t x v clock h e = schema (after_add_schema k s x) refl e
    where
      version : (s₁ : State C) → after_add_schema k s x ≡ Ok s₁ → (r : Result (State C) Fault) → after_add_version s₁ (under_last_added_schema s₁ v) ≡ r → then r (λ s₂. after_set_current s₂ last_added clock) ≡ Ok t →
          Leads k s t (add_event s₁ (under_last_added_schema s₁ v) ∷ was_chosen (event_id (add_event s₁ (under_last_added_schema s₁ v))) clock ∷ [])
      version s₁ q (Err f) q₂ e' = ok_not_err e'
      version s₁ q (Ok s₂) q₂ e' =
          let one : Leads k s s₁ [] = schema_given k s s₁ x h q in
          let two : Leads k s₁ s₂ (add_event s₁ (under_last_added_schema s₁ v) ∷ []) = version_given k s₁ s₂ (under_last_added_schema s₁ v) one.1 q₂ in
          let three : Leads k s₂ t (was_chosen (id_or_minus_one s₂.last_added_version) clock ∷ []) = choice_made k s₂ t last_added clock two.1 e' in
          let last : s₂.last_added_version ≡ Some (event_id (add_event s₁ (under_last_added_schema s₁ v))) = two.0.last_is ∙ added_last s₁.last_added_version s₁ (under_last_added_schema s₁ v) (equal_version s₁ (under_last_added_schema s₁ v).content) in
          let four : Leads k s₂ t (was_chosen (event_id (add_event s₁ (under_last_added_schema s₁ v))) clock ∷ []) = subst (λ o. Leads k s₂ t (was_chosen (id_or_minus_one o) clock ∷ [])) last three in
          (follow k s s₁ t [] _ one.0 (follow k s₁ s₂ t (add_event s₁ (under_last_added_schema s₁ v) ∷ []) _ two.0 four.0), four.1)

      schema : (r : Result (State C) Fault) → after_add_schema k s x ≡ r → then r (λ s₁. then (after_add_version s₁ (under_last_added_schema s₁ v)) λ s₂. after_set_current s₂ last_added clock) ≡ Ok t →
          Leads k s t (add_event (state_or s r) (under_last_added_schema (state_or s r) v) ∷ was_chosen (event_id (add_event (state_or s r) (under_last_added_schema (state_or s r) v))) clock ∷ [])
      schema (Err f) q e' = ok_not_err e'
      schema (Ok s₁) q e' = version s₁ q (after_add_version s₁ (under_last_added_schema s₁ v)) refl e'

  pub edit_leads : (k : Sameness C) (s t : State C) (x : Edit C) (clock : ℤ) → Reached s → edit k s x clock ≡ Ok t → Leads k s t (events k s x clock)
  unfolding edit events
  edit_leads k s t (upgrade_format n) clock h e = lead_stay k s t h (refuse_ok (not (eqb n 1)) _ _ t e).1
  edit_leads k s t (set_location x) clock h e = located k s t x h e
  edit_leads k s t (assign_uuid u) clock h e = uuid_given k s t u h e
  edit_leads k s t (add_schema x) clock h e = schema_given k s t x h e
  edit_leads k s t (add_version x) clock h e = version_given k s t x h e
  edit_leads k s t (set_current_version_id i) clock h e = choice_made k s t i clock h e
  edit_leads k s t (set_current_version x v) clock h e = current_given k s t x v clock h e
  edit_leads k s t (set_properties ps) clock h e = properties_given k s t ps h e
  edit_leads k s t (remove_properties ks) clock h e = properties_taken k s t ks h e

  -- a run of edits, accepted or refused
  pub run_leads : (k : Sameness C) (s : State C) (es : List (Timed C)) → Reached s → Leads k s (run k s es) (events_of k s es)
  run_leads k s [] h = (stay k s, h)
  run_leads k s (e ∷ es) h = go (edit k s e.what e.clock) refl (λ s₁. run_leads k s₁ es)
    where
      go : (r : Result (State C) Fault) → edit k s e.what e.clock ≡ r → ((s₁ : State C) → Reached s₁ → Leads k s₁ (run k s₁ es) (events_of k s₁ es)) →
          Leads k s (run k (state_or s r) es) (if_accepted r (events k s e.what e.clock) ++ events_of k (state_or s r) es)
      go (Err f) q more = more s h
      go (Ok s₁) q more =
          let one = edit_leads k s s₁ e.what e.clock h q in
          let two = more s₁ one.1 in
          (follow k s s₁ (run k s₁ es) (events k s e.what e.clock) (events_of k s₁ es) one.0 two.0, two.1)
