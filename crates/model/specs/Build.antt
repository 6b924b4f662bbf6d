-- Runs of edits, and build: the lost dialects, the kept versions, the log. Assumes nothing.
use Rattle.std.specs.Prelude.{ℕ, suc, ◌-◌, max, Bool, false, cond, not, ◌&&◌, ◌||◌, List, [], ◌∷◌, ◌++◌, length, ℤ, Some, None, Ok, Err, filter, Option, Result, ◌==◌, int_lt, nat_lt}
use Rattle.model.specs.Bytes.{Bytes, same_bytes, any, all}
use Rattle.model.specs.Version.{Property, Content, Version, LogEntry, Sameness, dialects, version_ids, schema_ids}
use Rattle.model.specs.Refusals.{no_current_version, schema_not_held, lost_dialect, limit_reached, Fault, fault, refuse, over, versions_part, log_part, builder_part}
use Rattle.model.specs.State.{Edit, Change, Metadata, State, uuid_assigned, location_set, schema_added, version_added, current_version_id_set, properties_set, properties_removed}
use Rattle.model.specs.Edits.{edit}
use Rattle.model.specs.Ids.{same_number, find, holds}
use Rattle.model.specs.Settings.{history_key, drop_key, truthy, effective_size}

-- an edit, and the time of the clock handed to it
pub record Timed (C : Type 0) : Type 0 where
  pub what : Edit C
  pub clock : ℤ

-- the state after an edit: a refused one leaves it as it was
abbrev pub state_or : {C : Type 0} → State C → Result (State C) Fault → State C
state_or s (Ok s₁) = s₁
state_or s (Err f) = s

-- the state after a list of edits, accepted or refused
abbrev pub run : {C : Type 0} → Sameness C → State C → List (Timed C) → State C
run k s [] = s
run k s (e ∷ es) = run k (state_or s (edit k s e.what e.clock)) es

-- the value of the property with that key, if there is one
abbrev pub look_up : Bytes → List Property → Option Bytes
look_up key [] = None
look_up key (p ∷ ps) = cond (same_bytes p.key key) (Some p.value) (look_up key ps)

-- the effective history size: how many versions the property version.history.num-entries asks to keep
unfoldable pub history_size : List Property → ℕ
history_size ps = effective_size (look_up history_key ps)

-- the property is there, and truthy
abbrev pub drop_allowed : Option Bytes → Bool
drop_allowed None = false
drop_allowed (Some b) = truthy b

-- a dialect of the previous version is not among those of the current one
abbrev pub loses_dialect : Option Version → Content → Bool
loses_dialect None c = false
loses_dialect (Some v) c = any (λ d. not (any (same_bytes d) (dialects c))) (dialects v.content)

-- how many of the versions have a higher id than i
abbrev pub higher : List Version → ℤ → ℕ
higher vs i = length (filter (λ w. int_lt i w.id) vs)

-- how many recorded changes add a version, new or reused
abbrev pub additions : {C : Type 0} → List (Change C) → ℕ
additions [] = 0
additions (uuid_assigned u ∷ cs) = additions cs
additions (location_set t ∷ cs) = additions cs
additions (schema_added x g ∷ cs) = additions cs
additions (version_added x ∷ cs) = suc (additions cs)
additions (current_version_id_set i ∷ cs) = additions cs
additions (properties_set ps ∷ cs) = additions cs
additions (properties_removed ks ∷ cs) = additions cs

-- how many versions to keep: the greatest of 1, the effective history size and the recorded additions
abbrev pub how_many_to_keep : ℕ → ℕ → ℕ
how_many_to_keep size added = max 1 (max size added)

-- a version stays if fewer than this have higher ids: n, but n - 1 where current is not among the n highest and n is more than the additions
unfoldable pub places : List Version → ℤ → ℕ → ℕ → ℕ
places vs current n added = cond (nat_lt (higher vs current) n || n == added) n (n - 1)

-- the version is current, or few enough have higher ids
unfoldable pub stays : List Version → ℤ → ℕ → ℕ → Version → Bool
stays vs current n added v = same_number v.id current || nat_lt (higher vs v.id) (places vs current n added)

-- the versions that do not expire
unfoldable pub unexpired : List Version → ℤ → ℕ → ℕ → List Version
unexpired vs current n added = filter (stays vs current n added) vs

-- the list with one more at its end, if there is one
abbrev pub with_entry : {A : Type 0} → List A → Option A → List A
with_entry xs None = xs
with_entry xs (Some x) = xs ++ x ∷ []

-- each entry names one of these ids
abbrev pub names_only : List ℤ → List LogEntry → Bool
names_only ids = all (λ e. holds e.id ids)

-- the longest ending of the log that names only these ids
abbrev pub kept_log : List ℤ → List LogEntry → List LogEntry
kept_log ids [] = []
kept_log ids (e ∷ es) = cond (names_only ids (e ∷ es)) (e ∷ es) (kept_log ids es)

module _ {C : Type 0} where
  -- the versions that build keeps
  abbrev pub kept_versions : State C → List Version
  kept_versions s =
      let added : ℕ = additions s.changes in
      unexpired s.metadata.versions s.metadata.current_version_id (how_many_to_keep (history_size s.metadata.properties) added) added

  -- the metadata that build answers
  abbrev pub built_metadata : State C → Metadata C
  built_metadata s = record {
    format_version = 1;
    uuid = s.metadata.uuid;
    location = s.metadata.location;
    current_version_id = s.metadata.current_version_id;
    schemas = s.metadata.schemas;
    versions = kept_versions s;
    version_log = kept_log (version_ids (kept_versions s)) (with_entry s.metadata.version_log s.pending_entry);
    properties = s.metadata.properties;
  }

  -- build, once the current version was looked up
  abbrev pub build_at : State C → Option Version → Result (Metadata C × List (Change C)) Fault
  build_at s None = Err (fault no_current_version builder_part)
  build_at s (Some v) =
      refuse (not (holds v.content.schema_id (schema_ids s.metadata.schemas))) (fault schema_not_held versions_part) (
      refuse (not (drop_allowed (look_up drop_key s.metadata.properties)) && loses_dialect s.previous_version v.content) (fault lost_dialect builder_part) (
      refuse (over s.rooms.version_log (with_entry s.metadata.version_log s.pending_entry)) (fault limit_reached log_part) (
      Ok (built_metadata s, s.changes))))

  -- build: the metadata and the recorded changes
  unfoldable pub build : State C → Result (Metadata C × List (Change C)) Fault
  build s = build_at s (find (λ v. v.id) s.metadata.current_version_id s.metadata.versions)
