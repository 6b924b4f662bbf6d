-- Versions, schemas and log entries, when two are the same, and how ids are given. Assumes nothing.
use Rattle.std.specs.Prelude.{Bool, true, false, ◌&&◌, List, map, ℤ, Some, None, Option}
use Rattle.model.specs.Bytes.{Bytes, same_list, same_bytes, folded}
use Rattle.model.specs.Ids.{same_number}

-- an entry of a version's summary, or a property of the view
pub record Property : Type 0 where
  pub key : Bytes
  pub value : Bytes

-- a SQL representation: the SQL text and its dialect
pub record Representation : Type 0 where
  pub sql : Bytes
  pub dialect : Bytes

-- the content of a version: all but its id and its time
pub record Content : Type 0 where
  pub schema_id : ℤ
  pub summary : List Property
  pub representations : List Representation
  pub default_catalog : Option Bytes
  pub default_namespace : List Bytes

-- a version: its id, its timestamp in milliseconds, its content
pub record Version : Type 0 where
  pub id : ℤ
  pub time : ℤ
  pub content : Content

-- an entry of the version log: the id of the version that became current, and when
pub record LogEntry : Type 0 where
  pub id : ℤ
  pub time : ℤ

-- a schema: its id, and its content as its kind has it
pub record Schema (C : Type 0) : Type 0 where
  pub id : ℤ
  pub content : C

-- a test that says yes exactly when two contents are equal: each kind of schema proves it of its own test
abbrev pub Sameness : Type 0 → Type 0
Sameness C = C → C → Bool

-- equal in key and value
abbrev pub same_property : Property → Property → Bool
same_property p q = same_bytes p.key q.key && same_bytes p.value q.value

-- equal in text and dialect
abbrev pub same_representation : Representation → Representation → Bool
same_representation r q = same_bytes r.sql q.sql && same_bytes r.dialect q.dialect

-- both absent, or equal
abbrev pub same_text : Option Bytes → Option Bytes → Bool
same_text None None = true
same_text None (Some b) = false
same_text (Some a) None = false
same_text (Some a) (Some b) = same_bytes a b

-- equal in all parts
abbrev pub same_content : Content → Content → Bool
same_content c d =
    same_number c.schema_id d.schema_id && (same_list same_property c.summary d.summary
    && (same_list same_representation c.representations d.representations
    && (same_text c.default_catalog d.default_catalog && same_list same_bytes c.default_namespace d.default_namespace)))

-- the content with another schema id
abbrev pub under_schema : ℤ → Content → Content
under_schema i c = record { schema_id = i; summary = c.summary; representations = c.representations; default_catalog = c.default_catalog; default_namespace = c.default_namespace }

-- the dialects in lower case, in order
abbrev pub dialects : Content → List Bytes
dialects c = map (λ r. folded r.dialect) c.representations

-- the ids of the versions, in order
abbrev pub version_ids : List Version → List ℤ
version_ids = map (λ v. v.id)

-- the ids of the schemas, in order
abbrev pub schema_ids : {C : Type 0} → List (Schema C) → List ℤ
schema_ids = map (λ t. t.id)
