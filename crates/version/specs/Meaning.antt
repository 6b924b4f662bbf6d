-- What the code's versions and log entries mean. Assumes nothing.
use Rattle.std.specs.Prelude.{ℕ, Bool, true, not, ◌&&◌, ◌||◌, map, ℤ, is_some, Some, None, Option}
use Rattle.std.specs.Option.{option_map}
use Rattle.model.specs.Bytes.{Bytes, all, ascii}
use Rattle.model.specs.Limits.{most_representations, most_summary_pairs, most_namespace_parts}
use Rattle.model.specs.Refusals.{over, first_failed}
use Rattle.model.specs.Version.{Content, Version, LogEntry, Representation}
use Rattle.model.specs.State.{VersionIn}
use Rattle.model.specs.Edits.{out_of_order}
use Rattle.text.specs.Meaning.{bytes_of, sound}
use Rattle.text.specs.Properties.{property_of, sound_property}
use Rattle.text.specs.declared.text.Text.{Text}
use Rattle.version.specs.declared.view_version.SqlViewRepresentation.{SqlViewRepresentation}
use Rattle.version.specs.declared.view_version.ViewVersion.{ViewVersion}
use Rattle.version.specs.declared.view_version.ViewVersionLog.{ViewVersionLog}

-- a SQL text with its dialect
abbrev pub representation_of : Bytes → SqlViewRepresentation → Representation
representation_of block r = record { sql = bytes_of block r.sql; dialect = bytes_of block r.dialect }

-- the content of a version: all but its id and its time
abbrev pub content_of : Bytes → ViewVersion → Content
content_of block v = record {
  schema_id = v.schema_id;
  summary = map (property_of block) v.summary.now;
  representations = map (representation_of block) v.representations.now;
  default_catalog = option_map (bytes_of block) v.default_catalog;
  default_namespace = map (bytes_of block) v.default_namespace.now;
}

-- a version held
abbrev pub version_of : Bytes → ViewVersion → Version
version_of block v = record { id = v.version_id; time = v.timestamp_ms; content = content_of block v }

-- the version under another id
abbrev pub renumbered : ℤ → ViewVersion → ViewVersion
renumbered i v = record {
  version_id = i;
  schema_id = v.schema_id;
  timestamp_ms = v.timestamp_ms;
  summary = v.summary;
  representations = v.representations;
  default_catalog = v.default_catalog;
  default_namespace = v.default_namespace;
}

-- the version under another schema id
abbrev pub of_schema : ℤ → ViewVersion → ViewVersion
of_schema i v = record {
  version_id = v.version_id;
  schema_id = i;
  timestamp_ms = v.timestamp_ms;
  summary = v.summary;
  representations = v.representations;
  default_catalog = v.default_catalog;
  default_namespace = v.default_namespace;
}

-- one of its lists is past its limit
abbrev pub past_limits : ViewVersion → Bool
past_limits v = over most_representations v.representations.now || (over most_summary_pairs v.summary.now || over most_namespace_parts v.default_namespace.now)

-- an absent text is sound
abbrev pub sound_if_there : Bytes → Option Text → Bool
sound_if_there block None = true
sound_if_there block (Some t) = sound block t

-- all its texts are sound
abbrev pub sound_texts : Bytes → ViewVersion → Bool
sound_texts block v =
    all (sound_property block) v.summary.now
    && (all (λ r. sound block r.sql && sound block r.dialect) v.representations.now
    && (sound_if_there block v.default_catalog && all (sound block) v.default_namespace.now))

-- no dialect holds a byte above 127
abbrev pub ascii_dialects : Bytes → ViewVersion → Bool
ascii_dialects block v = all (λ r. ascii (bytes_of block r.dialect)) v.representations.now

-- a key of the summary does not come after the one before it
abbrev pub keys_out_of_order : Bytes → ViewVersion → Bool
keys_out_of_order block v = is_some (out_of_order (map (property_of block) v.summary.now))

-- the number that its own tests refuse it with, none where they pass; they do not look at its ids
abbrev pub version_verdict : Bytes → ViewVersion → Option ℕ
version_verdict block v = first_failed (past_limits v) (not (sound_texts block v)) (not (ascii_dialects block v)) (keys_out_of_order block v)

-- a version handed in
abbrev pub version_in : Bytes → ViewVersion → VersionIn
version_in block v = record { id = v.version_id; time = v.timestamp_ms; content = content_of block v; verdict = version_verdict block v }

-- an entry of the version log
abbrev pub entry_of : ViewVersionLog → LogEntry
entry_of e = record { id = e.version_id; time = e.timestamp_ms }
