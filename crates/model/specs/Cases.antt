-- Marked cases of the rules, as one fact about the definitions. Assumes nothing.
use Rattle.std.specs.Prelude.{◌≡◌, ℕ, List, [], ◌∷◌, map, ℤ, pos, negsuc, Some, None, Ok, Err, codes, Option, Result}
use Rattle.model.specs.Bytes.{Bytes}
use Rattle.model.specs.Version.{Property, Representation, Content, Version, LogEntry, Sameness, version_ids}
use Rattle.model.specs.Refusals.{repeated_dialect, time_too_early, negative_history_size, limit_reached, Fault, fault, then, schemas_part, versions_part, properties_part, log_part, changes_part}
use Rattle.model.specs.State.{SchemaIn, VersionIn, Metadata, State, set_location, add_schema, add_version, set_current_version_id, set_properties}
use Rattle.model.specs.Updates.{state_of}
use Rattle.model.specs.Edits.{edit}
use Rattle.model.specs.Start.{empty, started}
use Rattle.model.specs.Build.{history_size, kept_log, build}
use Rattle.model.specs.Settings.{history_key, drop_key}

-- a representation in that dialect
abbrev pub query : Bytes → Representation
query d = record { sql = []; dialect = d }

-- a content of schema i, with those dialects
abbrev pub content_of : ℤ → List Bytes → Content
content_of i ds = record { schema_id = i; summary = []; representations = map query ds; default_catalog = None; default_namespace = [] }

-- a version with the id i, whose one dialect is that number, at time 0
abbrev pub numbered : ℕ → Version
numbered i = record { id = pos i; time = pos 0; content = content_of (pos 0) ((i ∷ []) ∷ []) }

-- a version handed in whose own tests pass
abbrev pub fresh : ℤ → Content → VersionIn
fresh time c = record { id = pos 0; time = time; content = c; verdict = None }

-- a history size, with lost dialects allowed
abbrev pub history_of : Bytes → List Property
history_of b = record { key = history_key; value = b } ∷ record { key = drop_key; value = codes "1" } ∷ []

-- a log entry
abbrev pub logged : ℕ → ℕ → LogEntry
logged i time = record { id = pos i; time = pos time }

-- a view with one schema, 0
abbrev pub view : ℕ → List Version → List LogEntry → List Property → Metadata Bytes
view current vs log ps = record {
  format_version = 1;
  uuid = [];
  location = [];
  current_version_id = pos current;
  schemas = record { id = pos 0; content = [] } ∷ [];
  versions = vs;
  version_log = log;
  properties = ps;
}

-- the builder that opens it
abbrev pub opened_view : ℕ → List Version → List LogEntry → List Property → State Bytes
opened_view current vs log ps = started (view current vs log ps)

-- what an accepted call gives
abbrev pub of_accepted : {A B : Type 0} → (A → B) → Result A Fault → Option B
of_accepted f (Ok a) = Some (f a)
of_accepted f (Err e) = None

-- the ids of the versions that build keeps
abbrev pub kept_ids : Result (State Bytes) Fault → Option (List ℤ)
kept_ids r = of_accepted (λ b. version_ids b.0.versions) (then r build)

-- versions 1 to 3
abbrev pub first_three : List Version
first_three = numbered 1 ∷ numbered 2 ∷ numbered 3 ∷ []

-- a view whose last log entry is at 1,000,000
abbrev pub late_view : State Bytes
late_view = opened_view 1 (numbered 1 ∷ []) (logged 1 1000000 ∷ []) []

-- versions 1 to 7, current 1, size 1
abbrev pub seven : State Bytes
seven = opened_view 1 (numbered 1 ∷ numbered 2 ∷ numbered 3 ∷ numbered 4 ∷ numbered 5 ∷ numbered 6 ∷ numbered 7 ∷ []) [] (history_of (codes "1"))

-- the history size set to a text
abbrev pub set_size : Sameness Bytes → Bytes → Result (State Bytes) Fault
set_size k b = edit k late_view (set_properties (Some (record { key = history_key; value = b }) ∷ [])) (pos 0)

-- a schema handed in whose own tests pass
abbrev pub fresh_schema : SchemaIn Bytes
fresh_schema = record { id = pos 0; content = []; greatest_field = pos 0; verdict = None }

-- the builder that starts from it, with rooms for so many schemas, versions, properties and changes, and one log entry
abbrev pub in_rooms : ℕ → ℕ → ℕ → ℕ → Metadata Bytes → State Bytes
in_rooms a b c d m =
    let s : State Bytes = started m in
    state_of m s.versions_at_start s.previous_version None None None [] (record { schemas = a; versions = b; version_log = 1; properties = c; changes = d })

-- a view begun, with schema 0 and version 1 of it
abbrev pub one_version : Sameness Bytes → Result (State Bytes) Fault
one_version k =
    then (edit k (started (empty [])) (add_schema fresh_schema) (pos 0)) λ s.
    edit k s (add_version (fresh (pos 0) (content_of (pos 0) []))) (pos 0)

-- each case, with what the definitions give
pub record Cases (k : Sameness Bytes) : Type 0 where
  pub a_minute_early_passes : of_accepted (λ s. version_ids s.metadata.versions) (edit k late_view (add_version (fresh (pos 940000) (content_of (pos 0) []))) (pos 0)) ≡ Some (pos 1 ∷ pos 2 ∷ [])
  pub over_a_minute_early : edit k late_view (add_version (fresh (pos 939999) (content_of (pos 0) []))) (pos 0) ≡ Err (fault time_too_early versions_part)
  pub size_minus_zero_is_no_number : of_accepted (λ s. history_size s.metadata.properties) (set_size k (codes "-0")) ≡ Some 10
  pub size_minus_one : set_size k (codes "-1") ≡ Err (fault negative_history_size properties_part)
  pub size_zero : of_accepted (λ s. history_size s.metadata.properties) (set_size k (codes "0")) ≡ Some 1
  pub current_takes_a_place : kept_ids (Ok (opened_view 2 (numbered 1 ∷ numbered 2 ∷ numbered 3 ∷ numbered 4 ∷ numbered 5 ∷ []) [] (history_of (codes "3")))) ≡ Some (pos 2 ∷ pos 4 ∷ pos 5 ∷ [])
  pub additions_all_stay : kept_ids (
      then (edit k (opened_view 1 first_three [] (history_of (codes "1"))) (add_version (fresh (pos 0) (content_of (pos 0) ((4 ∷ []) ∷ [])))) (pos 0)) λ s.
      edit k s (add_version (fresh (pos 0) (content_of (pos 0) ((5 ∷ []) ∷ [])))) (pos 0)) ≡ Some (pos 1 ∷ pos 4 ∷ pos 5 ∷ [])
  pub only_current_stays : kept_ids (edit k seven (set_current_version_id (pos 3)) (pos 0)) ≡ Some (pos 3 ∷ [])
  pub next_id_is_four : of_accepted (λ s. version_ids s.metadata.versions) (
      then (then (edit k seven (set_current_version_id (pos 3)) (pos 0)) build) λ b.
      edit k (started b.0) (add_version (fresh (pos 0) (content_of (pos 0) []))) (pos 0)) ≡ Some (pos 3 ∷ pos 4 ∷ [])
  pub log_dropped_up_to_expired : kept_log (pos 1 ∷ pos 3 ∷ []) (logged 1 0 ∷ logged 2 0 ∷ logged 1 0 ∷ logged 3 0 ∷ []) ≡ logged 1 0 ∷ logged 3 0 ∷ []
  pub schema_minus_one_is_new : of_accepted (λ s. s.last_added_version) (then (one_version k) λ s. edit k s (add_version (fresh (pos 0) (content_of (negsuc 0) []))) (pos 0)) ≡ Some (Some (pos 2))
  pub schema_id_is_reused : of_accepted (λ s. s.last_added_version) (then (one_version k) λ s. edit k s (add_version (fresh (pos 0) (content_of (pos 0) []))) (pos 0)) ≡ Some (Some (pos 1))
  pub trailing_slashes_removed : of_accepted (λ s. s.metadata.location) (edit k late_view (set_location (Some (codes "a//"))) (pos 0)) ≡ Some (codes "a")
  pub dialects_equal_up_to_case : edit k late_view (add_version (fresh (pos 940000) (content_of (pos 0) (codes "Spark" ∷ codes "SPARK" ∷ [])))) (pos 0) ≡ Err (fault repeated_dialect versions_part)
  pub current_set_and_set_back : of_accepted (λ b. b.0.version_log) (
      then (edit k (opened_view 1 first_three [] (history_of (codes "10"))) (set_current_version_id (pos 2)) (pos 7)) λ s.
      then (edit k s (set_current_version_id (pos 1)) (pos 8)) build) ≡ Some (logged 1 8 ∷ [])
  pub no_room_for_a_schema : edit k (in_rooms 0 1 1 1 (empty [])) (add_schema fresh_schema) (pos 0) ≡ Err (fault limit_reached schemas_part)
  pub no_room_for_a_version : edit k (in_rooms 2 1 2 2 (view 1 (numbered 1 ∷ []) [] [])) (add_version (fresh (pos 0) (content_of (pos 0) []))) (pos 0) ≡ Err (fault limit_reached versions_part)
  pub no_room_for_a_property : edit k (in_rooms 1 1 0 1 (empty [])) (set_properties (Some (record { key = []; value = [] }) ∷ [])) (pos 0) ≡ Err (fault limit_reached properties_part)
  pub no_room_for_a_change : edit k (in_rooms 1 1 1 0 (empty [])) (set_location (Some (codes "a"))) (pos 0) ≡ Err (fault limit_reached changes_part)
  pub no_room_for_an_entry : then (edit k (in_rooms 1 3 2 1 (view 1 first_three (logged 1 0 ∷ []) (history_of (codes "10")))) (set_current_version_id (pos 2)) (pos 0)) build ≡ Err (fault limit_reached log_part)

-- they hold at every schema kind
abbrev pub CasesHold : Type 0
CasesHold = (k : Sameness Bytes) → Cases k
