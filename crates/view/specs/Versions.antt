-- A new version: the schema that it enters under. Assumes nothing.
use Rattle.std.specs.Prelude.{not, ℤ, Some, None, Ok, Err, Option, Result}
use Rattle.model.specs.Bytes.{same_bytes, repeats}
use Rattle.model.specs.Ids.{holds, resolved_id}
use Rattle.model.specs.Refusals.{Fault, fault, refuse, versions_part, no_schema_added, schema_not_held, repeated_dialect, time_too_early}
use Rattle.model.specs.State.{VersionIn, State}
use Rattle.model.specs.Version.{dialects, schema_ids}
use Rattle.model.specs.Edits.{too_early_for}

module _ {C : Type 0} where
  -- the schema id that was resolved, if the version may enter under it: the schema is held, no dialect is repeated, the time is not too early
  abbrev pub admitted : State C → VersionIn → Option ℤ → Result ℤ Fault
  admitted s x None = Err (fault no_schema_added versions_part)
  admitted s x (Some i) =
      refuse (not (holds i (schema_ids s.metadata.schemas))) (fault schema_not_held versions_part) (
      refuse (repeats same_bytes (dialects x.content)) (fault repeated_dialect versions_part) (
      refuse (too_early_for x.time s.metadata.version_log) (fault time_too_early versions_part) (Ok i)))

  -- the schema id under which a version enters as new, or why it may not
  abbrev pub admitted_under : State C → VersionIn → Result ℤ Fault
  admitted_under s x = admitted s x (resolved_id x.content.schema_id s.last_added_schema)
