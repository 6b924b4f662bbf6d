-- What a build answers, and what it leaves. Assumes nothing.
use Rattle.std.specs.Prelude.{◌≡◌, Bool, true, false, List, Some, None, Ok, Err, Option, Result}
use Rattle.model.specs.Refusals as refusals
use Rattle.model.specs.State.{Change, Metadata}
use Rattle.model.specs.Build.{build, built_metadata}
use Rattle.register.specs.declared.table.Table.{Table}
use Rattle.register.specs.Tables.{held_in, after_push}
use Rattle.version.specs.declared.view_version.ViewVersionLog.{ViewVersionLog}
use Rattle.fault.specs.Meaning.{fault_of}
use Rattle.fault.specs.declared.fault.Fault.{Fault}
use Rattle.view.specs.declared.view_update.ViewUpdate.{ViewUpdate}
use Rattle.view.specs.declared.view_update.ViewUpdate.TheVariants.{AssignUuid, SetLocation, AddSchema, AddViewVersion, SetCurrentViewVersion, SetProperties, RemoveProperties}
use Rattle.view.specs.declared.view_metadata_builder.ViewMetadataBuilder.{ViewMetadataBuilder}
use Rattle.view.specs.declared.view_metadata.ViewMetadata.{ViewMetadata}
use Rattle.view.specs.declared.view.View.{View}
use Rattle.view.specs.declared.build.Refused.{Refused}
use Rattle.view.specs.Meaning.{Reading, changes_of, model_of, metadata}

-- the change adds a version, new or reused
abbrev pub adds_version : {X : Type 0} → ViewUpdate X → Bool
adds_version (AssignUuid u) = false
adds_version (SetLocation t) = false
adds_version (AddSchema x i) = false
adds_version (AddViewVersion v) = true
adds_version (SetCurrentViewVersion i) = false
adds_version (SetProperties ps) = false
adds_version (RemoveProperties ks) = false

-- the log with the pending entry, if there is one
abbrev pub logged : Table ViewVersionLog → Option ViewVersionLog → Table ViewVersionLog
logged t None = t
logged t (Some e) = after_push t e

module _ {X : Type 0} (g : Reading X) where
  -- what a builder holds is the answer of the build of another
  abbrev pub HoldsBuild : ViewMetadataBuilder X → ViewMetadataBuilder X → Type 0
  HoldsBuild b after = ◌≡◌ {A = Metadata g.Content × List (Change g.Content)} (metadata g after.view, changes_of g after.view) (built_metadata (model_of g b), changes_of g b.view)

  -- what a build answers, by the answer of the tests before it
  abbrev pub build_after : ViewMetadataBuilder X → Result (Unit {0}) Fault → Result (Metadata g.Content × List (Change g.Content)) refusals.Fault
  build_after b (Ok u) = Ok (built_metadata (model_of g b), changes_of g b.view)
  build_after b (Err f) = Err (fault_of f)

  -- the answer is what the build of that builder is defined to be; a refusal hands the builder back as it was
  abbrev pub Builds : ViewMetadataBuilder X → Result (View X) (Refused X) → Type 0
  Builds b (Ok r) = Ok (metadata g r, changes_of g r) ≡ build (model_of g b)
  Builds b (Err f) = (Err (fault_of f.fault) ≡ build (model_of g b)) × (f.builder ≡ b)

-- the metadata handed out: format version 1, its own fields, and what its tables hold
pub record Shows {X : Type 0} (v : View X) (r : ViewMetadata X) : Type 0 where
  pub format_version : r.format_version ≡ 1
  pub uuid : r.uuid ≡ v.uuid
  pub location : r.location ≡ v.location
  pub current_version_id : r.current_version_id ≡ v.current_version_id
  pub schemas : r.schemas.now ≡ held_in v.schemas.table
  pub versions : r.versions.now ≡ held_in v.versions.table
  pub version_log : r.version_log.now ≡ held_in v.version_log
  pub properties : r.properties.now ≡ held_in v.properties.table
