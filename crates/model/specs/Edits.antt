-- The nine edits: what each refuses, in which order, and what it changes and records. Assumes nothing.
use Rattle.std.specs.Prelude.{ℕ, suc, Bool, false, cond, not, ◌&&◌, List, [], ◌∷◌, ◌++◌, length, ℤ, pos, ◌+ℤ◌, Some, None, Ok, Err, filter, Option, Result, ◌==◌, int_lt}
use Rattle.model.specs.Bytes.{Bytes, same_list, same_bytes, before, any, repeats, trimmed}
use Rattle.model.specs.Numbers.{signed_reading, below_zero}
use Rattle.model.specs.Version.{Property, Content, Version, LogEntry, Sameness, same_property, same_content, dialects, version_ids, schema_ids}
use Rattle.model.specs.Refusals.{bad_text, unknown_format, malformed, schema_not_held, no_schema_added, no_version_added, version_not_held, repeated_dialect, time_too_early, negative_history_size, no_id_left, limit_reached, Fault, fault, refuse, refuse_with, refuse_at, then, full, over, schemas_part, versions_part, properties_part, builder_part}
use Rattle.model.specs.State.{Text, SchemaIn, VersionIn, Edit, State, entered, upgrade_format, set_location, assign_uuid, add_schema, add_version, set_current_version_id, set_current_version, set_properties, remove_properties, uuid_assigned, location_set, schema_added, version_added, current_version_id_set, properties_set, properties_removed}
use Rattle.model.specs.Updates.{version_with_id, with_schema_id, stored_version, schema_with_id, stored_schema, with_uuid, with_location, with_current, with_schemas, with_versions, with_properties, with_metadata, with_last_schema, with_last_version, with_pending, recorded}
use Rattle.model.specs.Settings.{history_key}
use Rattle.model.specs.Ids.{holds, same_number, is_id, last_added, next_id, ids_used_up, lowest_id_where, find, resolved_id}
use Rattle.model.specs.Limits.{most_in_call}

-- what was handed in, or a refusal at the first that has a bad text; positions count from i
abbrev pub read_all : {A : Type 0} → ℕ → List (Option A) → Result (List A) Fault
read_all i [] = Ok []
read_all i (None ∷ xs) = Err (record { number = bad_text; part = properties_part; position = i })
read_all i (Some x ∷ xs) = then (read_all (suc i) xs) (λ rest. Ok (x ∷ rest))

-- the position, counted from i, of the first key that does not come after the one before it, which for the first is k
abbrev pub misplaced : ℕ → Bytes → List Property → Option ℕ
misplaced i k [] = None
misplaced i k (p ∷ ps) = cond (before k p.key) (misplaced (suc i) p.key ps) (Some i)

-- the position of the first key that does not come after the one before it
abbrev pub out_of_order : List Property → Option ℕ
out_of_order [] = None
out_of_order (p ∷ ps) = misplaced 1 p.key ps

-- the position, counted from i, of a history size that reads below 0
abbrev pub negative_size : ℕ → List Property → Option ℕ
negative_size i [] = None
negative_size i (p ∷ ps) = cond (same_bytes p.key history_key && below_zero (signed_reading p.value)) (Some i) (negative_size (suc i) ps)

-- the properties, where the first with that key has the new value
abbrev pub revalued : Property → List Property → List Property
revalued p [] = []
revalued p (q ∷ qs) = cond (same_bytes p.key q.key) (record { key = q.key; value = p.value } ∷ qs) (q ∷ revalued p qs)

-- the properties with one more, before the first whose key comes after its own
abbrev pub placed : Property → List Property → List Property
placed p [] = p ∷ []
placed p (q ∷ qs) = cond (before p.key q.key) (p ∷ q ∷ qs) (q ∷ placed p qs)

-- some property has the key
abbrev pub has_key : Bytes → List Property → Bool
has_key k = any (λ q. same_bytes k q.key)

-- a key already held gets the new value in its own record, any other property goes where its key belongs in the order
abbrev pub put_property : Property → List Property → List Property
put_property p held = cond (has_key p.key held) (revalued p held) (placed p held)

-- the properties put one after another
abbrev pub put_properties : List Property → List Property → List Property
put_properties [] held = held
put_properties (p ∷ ps) held = put_properties ps (put_property p held)

-- the properties after a list of them is set, in a table of that room: all its texts, then its order, then its history size, then the room
unfoldable pub properties_after : ℕ → List (Option Property) → List Property → Result (List Property) Fault
properties_after room xs held =
    refuse (over most_in_call xs) (fault limit_reached properties_part) (then (read_all 0 xs) λ ps.
    refuse_at malformed properties_part (out_of_order ps) (
    refuse_at negative_history_size properties_part (negative_size 0 ps) (
    refuse (over room (put_properties ps held)) (fault limit_reached properties_part) (
    Ok (put_properties ps held)))))

-- the properties whose key is not among the keys
abbrev pub without : List Bytes → List Property → List Property
without keys = filter (λ p. not (any (same_bytes p.key) keys))

-- more than 60,000 milliseconds before the last entry of the log
abbrev pub too_early_for : ℤ → List LogEntry → Bool
too_early_for time [] = false
too_early_for time (e ∷ []) = int_lt (time +ℤ pos 60000) e.time
too_early_for time (e ∷ f ∷ es) = too_early_for time (f ∷ es)

-- the log entry for the id i that becomes current: with the time of its version if this builder entered it as new, else with the clock's
abbrev pub log_entry_of : ℤ → ℤ → Option Version → LogEntry
log_entry_of i clock None = record { id = i; time = clock }
log_entry_of i clock (Some v) = record { id = i; time = v.time }

-- the same, with the version looked up among those entered as new
abbrev pub log_entry : List Version → ℤ → ℤ → LogEntry
log_entry entered_ones i clock = log_entry_of i clock (find (λ v. v.id) i entered_ones)

-- the id, or -1 where there is none
abbrev pub id_or_minus_one : Option ℤ → ℤ
id_or_minus_one None = last_added
id_or_minus_one (Some i) = i

module _ {C : Type 0} where
  -- set location
  unfoldable pub after_set_location : State C → Text → Result (State C) Fault
  after_set_location s None = Err (fault bad_text builder_part)
  after_set_location s (Some b) =
      cond (same_bytes (trimmed b) s.metadata.location) (Ok s) (
      recorded (location_set (Some (trimmed b))) (with_metadata (with_location (trimmed b) s.metadata) s))

  -- assign uuid
  unfoldable pub after_assign_uuid : State C → Bytes → Result (State C) Fault
  after_assign_uuid s u = cond (same_bytes u s.metadata.uuid) (Ok s) (recorded (uuid_assigned u) (with_metadata (with_uuid u s.metadata) s))

  -- set properties: nothing is recorded where no property changes
  unfoldable pub after_set_properties : State C → List (Option Property) → Result (State C) Fault
  after_set_properties s xs =
      then (properties_after s.rooms.properties xs s.metadata.properties) λ new.
      cond (same_list same_property new s.metadata.properties) (Ok s) (
      recorded (properties_set xs) (with_metadata (with_properties new s.metadata) s))

  -- remove properties, its tests passed: nothing is recorded where no key was held
  abbrev pub properties_shrink_to : State C → List Text → List Property → Result (State C) Fault
  properties_shrink_to s xs left =
      cond (length left == length s.metadata.properties) (Ok s) (recorded (properties_removed xs) (with_metadata (with_properties left s.metadata) s))

  -- remove properties: all its texts first
  unfoldable pub after_remove_properties : State C → List Text → Result (State C) Fault
  after_remove_properties s xs =
      refuse (over most_in_call xs) (fault limit_reached properties_part) (then (read_all 0 xs) λ ks.
      properties_shrink_to s xs (without ks s.metadata.properties))

  -- add schema, its own tests passed: reuse of the held one with the id i, or a new one
  abbrev pub reuse_or_add_schema : State C → SchemaIn C → Option ℤ → Result (State C) Fault
  reuse_or_add_schema s x (Some i) = cond (is_id s.last_added_schema i) (Ok s) (recorded (schema_added (schema_with_id i x) None) (with_last_schema i s))
  reuse_or_add_schema s x None =
      let n : SchemaIn C = schema_with_id (next_id (pos 0) (schema_ids s.metadata.schemas)) x in
      refuse (ids_used_up (schema_ids s.metadata.schemas)) (fault no_id_left schemas_part) (
      refuse (full s.rooms.schemas s.metadata.schemas) (fault limit_reached schemas_part) (
      recorded (schema_added n (Some x.greatest_field)) (
      with_last_schema n.id (with_metadata (with_schemas (s.metadata.schemas ++ stored_schema n ∷ []) s.metadata) s))))

  -- add schema
  unfoldable pub after_add_schema : Sameness C → State C → SchemaIn C → Result (State C) Fault
  after_add_schema k s x =
      refuse_with schemas_part x.verdict (
      reuse_or_add_schema s x (lowest_id_where (λ t. t.id) (λ t. k t.content x.content) s.metadata.schemas))

  -- the lowest id of a held version with that content, if there is one
  abbrev pub equal_version : State C → Content → Option ℤ
  equal_version s c = lowest_id_where (λ v. v.id) (λ v. same_content v.content c) s.metadata.versions

  -- a version handed in, with the id that a new one gets
  abbrev pub with_next_version_id : State C → VersionIn → VersionIn
  with_next_version_id s x = version_with_id (next_id (pos 1) (version_ids s.metadata.versions)) x

  -- a new version as it is recorded: with schema id -1 where its schema is the last added
  abbrev pub as_recorded : State C → VersionIn → VersionIn
  as_recorded s x = cond (is_id s.last_added_schema x.content.schema_id) (with_schema_id last_added x) x

  -- enter a new version, whose schema id is resolved
  unfoldable pub enter : State C → VersionIn → Result (State C) Fault
  enter s x =
      let n : VersionIn = with_next_version_id s x in
      refuse (not (holds x.content.schema_id (schema_ids s.metadata.schemas))) (fault schema_not_held versions_part) (
      refuse (repeats same_bytes (dialects x.content)) (fault repeated_dialect versions_part) (
      refuse (too_early_for x.time s.metadata.version_log) (fault time_too_early versions_part) (
      refuse (ids_used_up (version_ids s.metadata.versions)) (fault no_id_left versions_part) (
      refuse (full s.rooms.versions s.metadata.versions) (fault limit_reached versions_part) (
      recorded (version_added (as_recorded s n)) (
      with_last_version n.id (with_metadata (with_versions (s.metadata.versions ++ stored_version n ∷ []) s.metadata) s)))))))

  -- enter a new version under the schema id that was resolved, if there is one
  abbrev pub enter_under : State C → VersionIn → Option ℤ → Result (State C) Fault
  enter_under s x None = Err (fault no_schema_added versions_part)
  enter_under s x (Some i) = enter s (with_schema_id i x)

  -- add version, its own tests passed: reuse of the held one with the id i, or a new one
  abbrev pub reuse_or_add_version : State C → VersionIn → Option ℤ → Result (State C) Fault
  reuse_or_add_version s x (Some i) = cond (is_id s.last_added_version i) (Ok s) (recorded (version_added (version_with_id i x)) (with_last_version i s))
  reuse_or_add_version s x None = enter_under s x (resolved_id x.content.schema_id s.last_added_schema)

  -- add version
  unfoldable pub after_add_version : State C → VersionIn → Result (State C) Fault
  after_add_version s x = refuse_with versions_part x.verdict (reuse_or_add_version s x (equal_version s x.content))

  -- a current version id as it is recorded: -1 where it is the last added
  abbrev pub id_as_recorded : State C → ℤ → ℤ
  id_as_recorded s i = cond (is_id s.last_added_version i) last_added i

  -- set the current version id to the one that was resolved, if there is one: the present id changes nothing
  abbrev pub set_current_to : State C → ℤ → Option ℤ → Result (State C) Fault
  set_current_to s clock None = Err (fault no_version_added builder_part)
  set_current_to s clock (Some i) =
      cond (same_number i s.metadata.current_version_id) (Ok s) (
      refuse (not (holds i (version_ids s.metadata.versions))) (fault version_not_held builder_part) (
      recorded (current_version_id_set (id_as_recorded s i)) (with_pending (Some (log_entry (entered s) i clock)) (with_metadata (with_current i s.metadata) s))))

  -- set current version id
  unfoldable pub after_set_current : State C → ℤ → ℤ → Result (State C) Fault
  after_set_current s i clock = set_current_to s clock (resolved_id i s.last_added_version)

  -- the version handed in, with the schema id that was just added
  abbrev pub under_last_added_schema : State C → VersionIn → VersionIn
  under_last_added_schema s x = with_schema_id (id_or_minus_one s.last_added_schema) x

  -- the nine edits, at a time of the clock; set current version is the first refusal of its three edits, and then changes nothing
  unfoldable pub edit : Sameness C → State C → Edit C → ℤ → Result (State C) Fault
  edit k s (upgrade_format n) clock = refuse (not (n == 1)) (fault unknown_format builder_part) (Ok s)
  edit k s (set_location t) clock = after_set_location s t
  edit k s (assign_uuid u) clock = after_assign_uuid s u
  edit k s (add_schema x) clock = after_add_schema k s x
  edit k s (add_version x) clock = after_add_version s x
  edit k s (set_current_version_id i) clock = after_set_current s i clock
  edit k s (set_current_version x v) clock =
      then (after_add_schema k s x) λ s₁. then (after_add_version s₁ (under_last_added_schema s₁ v)) λ s₂. after_set_current s₂ last_added clock
  edit k s (set_properties ps) clock = after_set_properties s ps
  edit k s (remove_properties ks) clock = after_remove_properties s ks
