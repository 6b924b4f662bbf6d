-- Beginning and opening: what each is handed, its tests in their order, and what the builder starts from. Assumes nothing.
use Rattle.std.specs.Prelude.{ℕ, suc, Bool, true, cond, not, ◌&&◌, List, [], ◌∷◌, map, length, ℤ, pos, Some, None, Ok, Err, Option, Result, ◌==◌, int_le, int_lt}
use Rattle.model.specs.Bytes.{Bytes, before}
use Rattle.model.specs.Version.{Property, Version, LogEntry, schema_ids}
use Rattle.model.specs.Refusals.{bad_text, unknown_format, malformed, no_current_version, schema_not_held, limit_reached, Part, Fault, fault, refuse, refuse_at, then, over, schemas_part, versions_part, properties_part, log_part, builder_part}
use Rattle.model.specs.State.{Text, SchemaIn, VersionIn, Metadata, Rooms, State}
use Rattle.model.specs.Updates.{stored_version, stored_schema}
use Rattle.model.specs.Ids.{last_added, highest_id, find, holds}
use Rattle.model.specs.Limits.{most_schemas, most_versions, most_opened_entries, most_entries, most_properties, most_changes}

-- a view to be opened; `block_too_long`: the text block is over 65,536 bytes
pub record ViewIn (C : Type 0) : Type 0 where
  pub format_version : ℕ
  pub block_too_long : Bool
  pub uuid : Bytes
  pub location : Text
  pub current_version_id : ℤ
  pub schemas : List (SchemaIn C)
  pub versions : List VersionIn
  pub version_log : List LogEntry
  pub properties : List (Option Property)

-- what beginning (a format version, a uuid, whether the text block is too long) or opening is handed
pub data Start (C : Type 0) : Type 0 where
  to_begin : ℕ → Bytes → Bool → Start C
  to_open : ViewIn C → Start C

-- 0 to 2,147,483,647
abbrev pub in_range : ℤ → Bool
in_range i = int_le (pos 0) i && int_le i highest_id

-- above the id before it, if there is one
abbrev pub rises : Option ℤ → ℤ → Bool
rises None i = true
rises (Some j) i = int_lt j i

-- what is tested of a schema or version: its id, and the number that its own tests refuse it with
pub record TestedRecord : Type 0 where
  pub id : ℤ
  pub verdict : Option ℕ

-- a passed limit has position 0
abbrev pub position_of : ℕ → ℕ → ℕ
position_of n i = cond (n == limit_reached) 0 i

-- the fault of its own tests, or else the rest's
abbrev pub refused_record : Part → ℕ → Option ℕ → Option Fault → Option Fault
refused_record part i None rest = rest
refused_record part i (Some n) rest = Some (record { number = n; part = part; position = position_of n i })

-- the fault of the first record, counted from i, that its own tests refuse, or whose id is out of range or not above the one before it
abbrev pub first_refused : Part → ℕ → Option ℤ → List TestedRecord → Option Fault
first_refused part i last [] = None
first_refused part i last (t ∷ ts) =
    refused_record part i t.verdict (
    cond (in_range t.id && rises last t.id) (first_refused part (suc i) (Some t.id) ts) (Some (record { number = malformed; part = part; position = i })))

-- a version that passes its own tests must have its schema id in range too
abbrev pub schema_id_tested : Option ℕ → ℤ → Option ℕ
schema_id_tested (Some n) i = Some n
schema_id_tested None i = cond (in_range i) None (Some malformed)

-- the position, counted from i, of the first entry whose id is out of range
abbrev pub entry_out_of_range : ℕ → List LogEntry → Option ℕ
entry_out_of_range i [] = None
entry_out_of_range i (e ∷ es) = cond (in_range e.id) (entry_out_of_range (suc i) es) (Some i)

-- after the key before it, if there is one
abbrev pub comes_after : Option Bytes → Bytes → Bool
comes_after None k = true
comes_after (Some j) k = before j k

-- the properties, or a refusal at the first that has a bad text or whose key does not come after the one before it
abbrev pub opened_properties : ℕ → Option Bytes → List (Option Property) → Result (List Property) Fault
opened_properties i last [] = Ok []
opened_properties i last (None ∷ ps) = Err (record { number = bad_text; part = properties_part; position = i })
opened_properties i last (Some p ∷ ps) =
    refuse (not (comes_after last p.key)) (record { number = malformed; part = properties_part; position = i }) (
    then (opened_properties (suc i) (Some p.key) ps) (λ rest. Ok (p ∷ rest)))

-- refused with the fault, if there is one
abbrev pub refuse_any : {A : Type 0} → Option Fault → Result A Fault → Result A Fault
refuse_any None r = r
refuse_any (Some f) r = Err f

-- what is tested of each version
abbrev pub version_tests : List VersionIn → List TestedRecord
version_tests = map (λ x. record { id = x.id; verdict = schema_id_tested x.verdict x.content.schema_id })

-- the rooms of a builder just begun or opened: the limits
abbrev pub rooms_at_start : Rooms
rooms_at_start = record { schemas = most_schemas; versions = most_versions; version_log = most_entries; properties = most_properties; changes = most_changes }

module _ {C : Type 0} where
  -- what is tested of each schema
  abbrev pub schema_tests : List (SchemaIn C) → List TestedRecord
  schema_tests = map (λ x. record { id = x.id; verdict = x.verdict })

  -- the metadata of a view to be opened
  abbrev pub opened_metadata : ViewIn C → Bytes → List Property → Metadata C
  opened_metadata x location ps = record {
    format_version = 1;
    uuid = x.uuid;
    location = location;
    current_version_id = x.current_version_id;
    schemas = map stored_schema x.schemas;
    versions = map stored_version x.versions;
    version_log = x.version_log;
    properties = ps;
  }

  -- tested for its current version and that version's schema
  abbrev pub current_tested : Metadata C → Option Version → Result (Metadata C) Fault
  current_tested m None = Err (fault no_current_version builder_part)
  current_tested m (Some v) = refuse (not (holds v.content.schema_id (schema_ids m.schemas))) (fault schema_not_held versions_part) (Ok m)

  -- opening, from the location on: schemas, versions, log, properties, each limit before its records, then the current version
  abbrev pub opened_with_location : ViewIn C → Text → Result (Metadata C) Fault
  opened_with_location x None = Err (fault bad_text builder_part)
  opened_with_location x (Some location) =
      refuse (over most_schemas x.schemas) (fault limit_reached schemas_part) (
      refuse_any (first_refused schemas_part 0 None (schema_tests x.schemas)) (
      refuse (over most_versions x.versions) (fault limit_reached versions_part) (
      refuse_any (first_refused versions_part 0 None (version_tests x.versions)) (
      refuse (over most_opened_entries x.version_log) (fault limit_reached log_part) (
      refuse_at malformed log_part (entry_out_of_range 0 x.version_log) (
      refuse (over most_properties x.properties) (fault limit_reached properties_part) (
      then (opened_properties 0 None x.properties) λ ps.
      current_tested (opened_metadata x location ps) (find (λ v. v.id) x.current_version_id (opened_metadata x location ps).versions))))))))

  -- the metadata that a begun builder starts from
  abbrev pub empty : Bytes → Metadata C
  empty u = record { format_version = 1; uuid = u; location = []; current_version_id = last_added; schemas = []; versions = []; version_log = []; properties = [] }

  -- beginning and opening: a refusal, or the metadata that the builder starts from
  unfoldable pub begin_or_open : Start C → Result (Metadata C) Fault
  begin_or_open (to_begin format u too_long) =
      refuse (not (format == 1)) (fault unknown_format builder_part) (
      refuse too_long (fault bad_text builder_part) (
      Ok (empty u)))
  begin_or_open (to_open x) =
      refuse (not (x.format_version == 1)) (fault unknown_format builder_part) (
      refuse x.block_too_long (fault bad_text builder_part) (
      opened_with_location x x.location))

  -- the builder at its start; one that was begun has no previous version
  abbrev pub started : Metadata C → State C
  started m = record {
    metadata = m;
    versions_at_start = length m.versions;
    previous_version = find (λ v. v.id) m.current_version_id m.versions;
    last_added_schema = None;
    last_added_version = None;
    pending_entry = None;
    changes = [];
    rooms = rooms_at_start;
  }
