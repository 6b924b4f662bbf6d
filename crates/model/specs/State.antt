-- What an edit is handed, what it records, and what a builder holds. Assumes nothing.
use Rattle.std.specs.Prelude.{ℕ, List, drop, ℤ, Option}
use Rattle.model.specs.Bytes.{Bytes}
use Rattle.model.specs.Version.{Property, Content, Version, LogEntry, Schema}

-- a text handed in: its bytes, or none where it reaches outside the text block or is too long
abbrev pub Text : Type 0
Text = Option Bytes

-- a schema handed in; `verdict` is the number that its own tests (limits, texts, form) refuse it with, none if they pass; an add gives it another id
pub record SchemaIn (C : Type 0) : Type 0 where
  pub id : ℤ
  pub content : C
  pub greatest_field : ℤ
  pub verdict : Option ℕ

-- a version handed in; `verdict` is the same for its own tests (limits, texts, dialects, form)
pub record VersionIn : Type 0 where
  pub id : ℤ
  pub time : ℤ
  pub content : Content
  pub verdict : Option ℕ

-- the nine edits and what each is handed; a property is none where one of its texts is
pub data Edit (C : Type 0) : Type 0 where
  upgrade_format : ℕ → Edit C
  set_location : Text → Edit C
  assign_uuid : Bytes → Edit C
  add_schema : SchemaIn C → Edit C
  add_version : VersionIn → Edit C
  set_current_version_id : ℤ → Edit C
  set_current_version : SchemaIn C → VersionIn → Edit C
  set_properties : List (Option Property) → Edit C
  remove_properties : List Text → Edit C

-- a change: an edit that was recorded, with what it was handed; a schema or version has the id it got, a new schema its greatest field number
pub data Change (C : Type 0) : Type 0 where
  uuid_assigned : Bytes → Change C
  location_set : Text → Change C
  schema_added : SchemaIn C → Option ℤ → Change C
  version_added : VersionIn → Change C
  current_version_id_set : ℤ → Change C
  properties_set : List (Option Property) → Change C
  properties_removed : List Text → Change C

-- a view's metadata
pub record Metadata (C : Type 0) : Type 0 where
  pub format_version : ℕ
  pub uuid : Bytes
  pub location : Bytes
  pub current_version_id : ℤ
  pub schemas : List (Schema C)
  pub versions : List Version
  pub version_log : List LogEntry
  pub properties : List Property

-- the rooms of the tables lent to a builder: how many each holds at most
pub record Rooms : Type 0 where
  pub schemas : ℕ
  pub versions : ℕ
  pub version_log : ℕ
  pub properties : ℕ
  pub changes : ℕ

-- what a builder holds
pub record State (C : Type 0) : Type 0 where
  -- the metadata as edited so far; its version log stays that of the start until build
  pub metadata : Metadata C
  -- how many versions the start had, and its current version
  pub versions_at_start : ℕ
  pub previous_version : Option Version
  -- the id that the latest accepted add of a schema, and of a version, gave, new or reused
  pub last_added_schema : Option ℤ
  pub last_added_version : Option ℤ
  -- the entry that build adds to the version log
  pub pending_entry : Option LogEntry
  pub changes : List (Change C)
  -- of the tables that hold the lists and the changes; no edit changes them
  pub rooms : Rooms

-- the versions that this builder entered as new
abbrev pub entered : {C : Type 0} → State C → List Version
entered s = drop s.versions_at_start s.metadata.versions
