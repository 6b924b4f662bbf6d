-- The number and letter of each refusal and part, and a fault of the code as the rules have it. Assumes nothing.
use Rattle.std.specs.Prelude.{ℕ, List, ◌∷◌, ◌++◌}
use Rattle.std.specs.Fmt.{decimal}
use Rattle.model.specs.Refusals as refusals
use Rattle.model.specs.Refusals.{bad_text, non_ascii_dialect, unknown_format, malformed, no_current_version, schema_not_held, no_schema_added, no_version_added, version_not_held, repeated_dialect, time_too_early, negative_history_size, lost_dialect, no_id_left, limit_reached, schemas_part, versions_part, properties_part, log_part, changes_part, builder_part}
use Rattle.fault.specs.declared.fault.Refusal.{Refusal}
use Rattle.fault.specs.declared.fault.Refusal.TheVariants.{BadText, NonAsciiDialect, UnknownFormat, Malformed, NoCurrentVersion, SchemaNotHeld, NoSchemaAdded, NoVersionAdded, VersionNotHeld, RepeatedDialect, TimeTooEarly, NegativeHistorySize, LostDialect, NoIdLeft, LimitReached}
use Rattle.fault.specs.declared.fault.Part.{Part}
use Rattle.fault.specs.declared.fault.Part.TheVariants.{Schemas, Versions, Properties, Log, Changes, Builder}
use Rattle.fault.specs.declared.fault.Fault.{Fault}

-- the number of a refusal
abbrev pub number_of : Refusal → ℕ
number_of BadText = bad_text
number_of NonAsciiDialect = non_ascii_dialect
number_of UnknownFormat = unknown_format
number_of Malformed = malformed
number_of NoCurrentVersion = no_current_version
number_of SchemaNotHeld = schema_not_held
number_of NoSchemaAdded = no_schema_added
number_of NoVersionAdded = no_version_added
number_of VersionNotHeld = version_not_held
number_of RepeatedDialect = repeated_dialect
number_of TimeTooEarly = time_too_early
number_of NegativeHistorySize = negative_history_size
number_of LostDialect = lost_dialect
number_of NoIdLeft = no_id_left
number_of LimitReached = limit_reached

-- the part that a fault arose in
abbrev pub part_of : Part → refusals.Part
part_of Schemas = schemas_part
part_of Versions = versions_part
part_of Properties = properties_part
part_of Log = log_part
part_of Changes = changes_part
part_of Builder = builder_part

-- a fault
abbrev pub fault_of : Fault → refusals.Fault
fault_of f = record { number = number_of f.refusal; part = part_of f.part; position = f.position }

-- a fault as it is printed: its number, the letter of its part, and its position
abbrev pub shown : refusals.Fault → List ℕ
shown f = decimal f.number ++ 32 ∷ refusals.letter f.part ∷ 32 ∷ decimal f.position
