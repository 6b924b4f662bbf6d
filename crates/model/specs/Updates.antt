-- Records with one part replaced, and the recording of a change. Assumes nothing.
use Rattle.std.specs.Prelude.{ℕ, List, [], ◌∷◌, ◌++◌, ℤ, Some, Ok, Option, Result}
use Rattle.model.specs.Bytes.{Bytes}
use Rattle.model.specs.Refusals.{Fault, fault, changes_part, limit_reached, refuse, full}
use Rattle.model.specs.Version.{Property, Version, LogEntry, Schema, under_schema}
use Rattle.model.specs.State.{SchemaIn, VersionIn, Change, Metadata, Rooms, State}

-- a version handed in, under another id
abbrev pub version_with_id : ℤ → VersionIn → VersionIn
version_with_id i x = record { id = i; time = x.time; content = x.content; verdict = x.verdict }

-- a version handed in, with another schema id
abbrev pub with_schema_id : ℤ → VersionIn → VersionIn
with_schema_id i x = record { id = x.id; time = x.time; content = under_schema i x.content; verdict = x.verdict }

-- the version as it is held
abbrev pub stored_version : VersionIn → Version
stored_version x = record { id = x.id; time = x.time; content = x.content }

module _ {C : Type 0} where
  -- a schema handed in, under another id
  abbrev pub schema_with_id : ℤ → SchemaIn C → SchemaIn C
  schema_with_id i x = record { id = i; content = x.content; greatest_field = x.greatest_field; verdict = x.verdict }

  -- the schema as it is held
  abbrev pub stored_schema : SchemaIn C → Schema C
  stored_schema x = record { id = x.id; content = x.content }

  -- metadata from its parts, in their order
  abbrev pub metadata_of : ℕ → Bytes → Bytes → ℤ → List (Schema C) → List Version → List LogEntry → List Property → Metadata C
  metadata_of f u b i ts vs es ps = record {
    format_version = f;
    uuid = u;
    location = b;
    current_version_id = i;
    schemas = ts;
    versions = vs;
    version_log = es;
    properties = ps;
  }

  -- a state from its parts, in their order
  abbrev pub state_of : Metadata C → ℕ → Option Version → Option ℤ → Option ℤ → Option LogEntry → List (Change C) → Rooms → State C
  state_of m n v i j e cs r = record {
    metadata = m;
    versions_at_start = n;
    previous_version = v;
    last_added_schema = i;
    last_added_version = j;
    pending_entry = e;
    changes = cs;
    rooms = r;
  }

  -- the metadata with another uuid
  abbrev pub with_uuid : Bytes → Metadata C → Metadata C
  with_uuid u m = metadata_of m.format_version u m.location m.current_version_id m.schemas m.versions m.version_log m.properties

  -- the metadata with another location
  abbrev pub with_location : Bytes → Metadata C → Metadata C
  with_location b m = metadata_of m.format_version m.uuid b m.current_version_id m.schemas m.versions m.version_log m.properties

  -- the metadata with another current version id
  abbrev pub with_current : ℤ → Metadata C → Metadata C
  with_current i m = metadata_of m.format_version m.uuid m.location i m.schemas m.versions m.version_log m.properties

  -- the metadata with other schemas
  abbrev pub with_schemas : List (Schema C) → Metadata C → Metadata C
  with_schemas ts m = metadata_of m.format_version m.uuid m.location m.current_version_id ts m.versions m.version_log m.properties

  -- the metadata with other versions
  abbrev pub with_versions : List Version → Metadata C → Metadata C
  with_versions vs m = metadata_of m.format_version m.uuid m.location m.current_version_id m.schemas vs m.version_log m.properties

  -- the metadata with other properties
  abbrev pub with_properties : List Property → Metadata C → Metadata C
  with_properties ps m = metadata_of m.format_version m.uuid m.location m.current_version_id m.schemas m.versions m.version_log ps

  -- the state with other metadata
  abbrev pub with_metadata : Metadata C → State C → State C
  with_metadata m s = state_of m s.versions_at_start s.previous_version s.last_added_schema s.last_added_version s.pending_entry s.changes s.rooms

  -- the state with i as the id of the last added schema
  abbrev pub with_last_schema : ℤ → State C → State C
  with_last_schema i s = state_of s.metadata s.versions_at_start s.previous_version (Some i) s.last_added_version s.pending_entry s.changes s.rooms

  -- the state with i as the id of the last added version
  abbrev pub with_last_version : ℤ → State C → State C
  with_last_version i s = state_of s.metadata s.versions_at_start s.previous_version s.last_added_schema (Some i) s.pending_entry s.changes s.rooms

  -- the state with another pending log entry
  abbrev pub with_pending : Option LogEntry → State C → State C
  with_pending e s = state_of s.metadata s.versions_at_start s.previous_version s.last_added_schema s.last_added_version e s.changes s.rooms

  -- the state with one more change recorded
  abbrev pub with_change : Change C → State C → State C
  with_change c s = state_of s.metadata s.versions_at_start s.previous_version s.last_added_schema s.last_added_version s.pending_entry (s.changes ++ c ∷ []) s.rooms

  -- the change is recorded, or refused where there is no room for it
  abbrev pub recorded : Change C → State C → Result (State C) Fault
  recorded c s = refuse (full s.rooms.changes s.changes) (fault limit_reached changes_part) (Ok (with_change c s))
