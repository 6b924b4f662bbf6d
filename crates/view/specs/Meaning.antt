-- From the code's values to the model's. Assumes nothing.
use Rattle.std.specs.Prelude.{◌≡◌, ℕ, Bool, List, map, ℤ, Some, Ok, Err, Option, Result}
use Rattle.std.specs.Option.{option_map}
use Rattle.model.specs.Bytes.{Bytes}
use Rattle.model.specs.Version.{Schema}
use Rattle.model.specs.Refusals as refusals
use Rattle.model.specs.Refusals.{fault}
use Rattle.model.specs.State.{SchemaIn, Edit, Change, Metadata, Rooms, State, uuid_assigned, location_set, schema_added, version_added, current_version_id_set, properties_set, properties_removed}
use Rattle.model.specs.Updates.{metadata_of, state_of}
use Rattle.model.specs.Edits.{edit}
use Rattle.text.specs.Meaning.{bytes_of, text_in}
use Rattle.register.specs.Tables.{held_in, room}
use Rattle.register.specs.Faults.{register_number}
use Rattle.register.specs.declared.fault.RegisterFault.{RegisterFault}
use Rattle.version.specs.Meaning.{version_of, version_in, entry_of}
use Rattle.text.specs.Properties.{property_in}
use Rattle.property.specs.Meaning.{properties_of, room_of}
use Rattle.fault.specs.Meaning.{fault_of}
use Rattle.fault.specs.declared.fault.Fault.{Fault}
use Rattle.view.specs.declared.view_update.ViewUpdate.{ViewUpdate}
use Rattle.view.specs.declared.view_update.ViewUpdate.TheVariants.{AssignUuid, SetLocation, AddSchema, AddViewVersion, SetCurrentViewVersion, SetProperties, RemoveProperties}
use Rattle.view.specs.declared.view.View.{View}
use Rattle.view.specs.declared.view_metadata_builder.ViewMetadataBuilder.{ViewMetadataBuilder}

-- what a kind of schema states: of a schema its id and its copy under another, the first id, over a text block its content, verdict and greatest field number; and contents and their test
abbrev pub Reading : Type 0 → Type 1
Reading X = record {
  named : X → ℤ;
  initial : ℤ;
  Content : Type 0;
  content : Bytes → X → Content;
  alike : Content → Content → Bool;
  verdict : Bytes → X → Option ℕ;
  copied : ℤ → X → X;
  greatest : Bytes → X → ℤ;
}

module _ {X : Type 0} (g : Reading X) where
  -- a schema held
  abbrev pub schema_of : Bytes → X → Schema g.Content
  schema_of block x = record { id = g.named x; content = g.content block x }

  -- a schema handed in
  abbrev pub schema_in : Bytes → X → SchemaIn g.Content
  schema_in block x = record { id = g.named x; content = g.content block x; greatest_field = g.greatest block x; verdict = g.verdict block x }

  -- a recorded change
  abbrev pub change_of : Bytes → ViewUpdate X → Change g.Content
  change_of block (AssignUuid u) = uuid_assigned u
  change_of block (SetLocation t) = location_set (text_in block t)
  change_of block (AddSchema x i) = schema_added (schema_in block x) i
  change_of block (AddViewVersion v) = version_added (version_in block v)
  change_of block (SetCurrentViewVersion i) = current_version_id_set i
  change_of block (SetProperties ps) = properties_set (map (property_in block) ps.now)
  change_of block (RemoveProperties ks) = properties_removed (map (text_in block) ks.now)

  -- the metadata of a view
  abbrev pub metadata : View X → Metadata g.Content
  metadata v =
      let block : Bytes = v.text.now in
      metadata_of 1 v.uuid (bytes_of block v.location) v.current_version_id
      (map (schema_of block) (held_in v.schemas.table))
      (map (version_of block) (held_in v.versions.table))
      (map entry_of (held_in v.version_log))
      (properties_of block v.properties)

  -- its recorded changes
  abbrev pub changes_of : View X → List (Change g.Content)
  changes_of v = map (change_of v.text.now) (held_in v.changes)

  -- the rooms of its tables
  abbrev pub rooms : View X → Rooms
  rooms v = record {
    schemas = room v.schemas.table;
    versions = room v.versions.table;
    version_log = room v.version_log;
    properties = room_of v.properties;
    changes = room v.changes;
  }

  -- what a builder holds
  abbrev pub model_of : ViewMetadataBuilder X → State g.Content
  model_of b =
      state_of (metadata b.view) b.opened_versions (option_map (version_of b.view.text.now) b.previous_view_version)
      b.last_added_schema_id b.last_added_version_id (option_map entry_of b.history_entry)
      (changes_of b.view) (rooms b.view)

  -- what a call made of a builder, by its answer and the builder at exit
  abbrev pub outcome : {A : Type 0} → Result A Fault → ViewMetadataBuilder X → Result (State g.Content) refusals.Fault
  outcome (Ok a) b = Ok (model_of b)
  outcome (Err f) b = Err (fault_of f)

-- an answer, with its fault as the rules have it
abbrev pub meant : {A : Type 0} → Result A Fault → Result A refusals.Fault
meant (Ok a) = Ok a
meant (Err f) = Err (fault_of f)

-- the id that a register gives, or its fault, in that part
abbrev pub given : refusals.Part → Result ℤ RegisterFault → Result ℤ refusals.Fault
given part (Ok i) = Ok i
given part (Err f) = Err (fault (register_number f) part)

-- a refusal leaves the builder as it was, slot for slot
abbrev pub unchanged_if_refused : {X A : Type 0} → Result A Fault → ViewMetadataBuilder X → ViewMetadataBuilder X → Type 0
unchanged_if_refused (Ok a) b after = Unit {0}
unchanged_if_refused (Err f) b after = after ≡ b

-- an accepted add answers the id that is now the last added
abbrev pub answers_last : Result ℤ Fault → Option ℤ → Type 0
answers_last (Ok i) last = last ≡ Some i
answers_last (Err f) last = Unit {0}

-- a call did what is defined, kept the text block, and left the builder as it was where it was refused
pub record Did {X A : Type 0} (g : Reading X) (defined : Result (State g.Content) refusals.Fault) (before : ViewMetadataBuilder X) (r : Result A Fault) (after : ViewMetadataBuilder X) : Type 0 where
  pub as_defined : outcome g r after ≡ defined
  pub block : after.view.text.now ≡ before.view.text.now
  pub refused : unchanged_if_refused r before after

-- a call did what the edit is defined to do at that time of the clock
abbrev pub Applied : {X A : Type 0} (g : Reading X) → Edit g.Content → ℤ → ViewMetadataBuilder X → Result A Fault → ViewMetadataBuilder X → Type 0
Applied g e clock before r after = Did g (edit g.alike (model_of g before) e clock) before r after
