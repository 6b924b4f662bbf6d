-- A builder with one part replaced. Assumes nothing.
use Rattle.std.specs.Prelude.{ℤ, Some, Option}
use Rattle.model.specs.Bytes.{Bytes}
use Rattle.text.specs.declared.text.Text.{Text}
use Rattle.register.specs.declared.table.Table.{Table}
use Rattle.register.specs.declared.register.Register.{Register}
use Rattle.version.specs.declared.view_version.ViewVersion.{ViewVersion}
use Rattle.version.specs.declared.view_version.ViewVersionLog.{ViewVersionLog}
use Rattle.property.specs.declared.property.Properties.{Properties}
use Rattle.view.specs.declared.view_update.ViewUpdate.{ViewUpdate}
use Rattle.view.specs.declared.view_metadata_builder.ViewMetadataBuilder.{ViewMetadataBuilder}

module _ {X : Type 0} where
  -- the builder with another uuid
  abbrev pub with_uuid : Bytes → ViewMetadataBuilder X → ViewMetadataBuilder X
  with_uuid u b = record b { view = record (b.view) { uuid = u } }

  -- the builder with another location
  abbrev pub with_location : Text → ViewMetadataBuilder X → ViewMetadataBuilder X
  with_location t b = record b { view = record (b.view) { location = t } }

  -- the builder with another current version id
  abbrev pub with_current : ℤ → ViewMetadataBuilder X → ViewMetadataBuilder X
  with_current i b = record b { view = record (b.view) { current_version_id = i } }

  -- the builder with other schemas
  abbrev pub with_schemas : Register X → ViewMetadataBuilder X → ViewMetadataBuilder X
  with_schemas ts b = record b { view = record (b.view) { schemas = ts } }

  -- the builder with other versions
  abbrev pub with_versions : Register ViewVersion → ViewMetadataBuilder X → ViewMetadataBuilder X
  with_versions vs b = record b { view = record (b.view) { versions = vs } }

  -- the builder with another version log
  abbrev pub with_log : Table ViewVersionLog → ViewMetadataBuilder X → ViewMetadataBuilder X
  with_log l b = record b { view = record (b.view) { version_log = l } }

  -- the builder with other properties
  abbrev pub with_properties : Properties → ViewMetadataBuilder X → ViewMetadataBuilder X
  with_properties ps b = record b { view = record (b.view) { properties = ps } }

  -- the builder with other recorded changes
  abbrev pub with_changes : Table (ViewUpdate X) → ViewMetadataBuilder X → ViewMetadataBuilder X
  with_changes cs b = record b { view = record (b.view) { changes = cs } }

  -- the builder with i as the id of the last added schema
  abbrev pub with_last_schema : ℤ → ViewMetadataBuilder X → ViewMetadataBuilder X
  with_last_schema i b = record b { last_added_schema_id = Some i }

  -- the builder with i as the id of the last added version
  abbrev pub with_last_version : ℤ → ViewMetadataBuilder X → ViewMetadataBuilder X
  with_last_version i b = record b { last_added_version_id = Some i }

  -- the builder with another pending log entry
  abbrev pub with_pending : Option ViewVersionLog → ViewMetadataBuilder X → ViewMetadataBuilder X
  with_pending e b = record b { history_entry = e }
