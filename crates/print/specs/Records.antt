-- How records are printed, with the texts of a block. Assumes nothing.
use Rattle.std.specs.Prelude.{ℕ, List, ◌++◌, codes, Option, Some, None, flat_map}
use Rattle.std.specs.Fmt.{signed_decimal}
use Rattle.quote.specs.Quotes.{quoted, hex_digits}
use Rattle.text.specs.Meaning.{bytes_of}
use Rattle.text.specs.declared.text.Text.{Text}
use Rattle.text.specs.declared.property.Property.{Property}
use Rattle.schema.specs.declared.sealed.SealedSchema.{SealedSchema}
use Rattle.version.specs.declared.view_version.SqlViewRepresentation.{SqlViewRepresentation}
use Rattle.version.specs.declared.view_version.ViewVersion.{ViewVersion}
use Rattle.version.specs.declared.view_version.ViewVersionLog.{ViewVersionLog}

-- [ ITEM .. ]
abbrev pub shown_list : {X : Type 0} → (X → List ℕ) → List X → List ℕ
shown_list item xs = codes "[" ++ flat_map (λ x. codes " " ++ item x) xs ++ codes " ]"

-- the items, one to a line, each after the same words
abbrev pub shown_lines : {X : Type 0} → List ℕ → (X → List ℕ) → List X → List ℕ
shown_lines words item xs = flat_map (λ x. words ++ item x ++ codes "\n") xs

-- log ID at MS
abbrev pub shown_log : ViewVersionLog → List ℕ
shown_log e = codes "log " ++ signed_decimal e.version_id ++ codes " at " ++ signed_decimal e.timestamp_ms

-- a uuid: two digits for each byte
abbrev pub shown_uuid : List ℕ → List ℕ
shown_uuid uuid = flat_map hex_digits uuid

module _ (block : List ℕ) where
  -- a text, in quotes
  abbrev pub shown_text : Text → List ℕ
  shown_text t = quoted (bytes_of block t)

  -- TEXT = TEXT
  abbrev pub shown_pair : Property → List ℕ
  shown_pair p = shown_text p.key ++ codes " = " ++ shown_text p.value

  -- TEXT dialect TEXT
  abbrev pub shown_representation : SqlViewRepresentation → List ℕ
  shown_representation r = shown_text r.sql ++ codes " dialect " ++ shown_text r.dialect

  -- a text, or the word none
  abbrev pub shown_catalog : Option Text → List ℕ
  shown_catalog None = codes "none"
  shown_catalog (Some t) = shown_text t

  -- schema ID highest-field-id N text TEXT
  abbrev pub shown_schema : SealedSchema → List ℕ
  shown_schema s = codes "schema " ++ signed_decimal s.schema_id ++ codes " highest-field-id " ++ signed_decimal s.highest_field_id ++ codes " text " ++ shown_text s.text

  -- summary [ TEXT = TEXT .. ] sql [ TEXT dialect TEXT .. ] catalog TEXT namespace [ TEXT .. ]
  abbrev pub shown_lists : ViewVersion → List ℕ
  shown_lists v =
      codes " summary " ++ shown_list shown_pair v.summary.now
      ++ codes " sql " ++ shown_list shown_representation v.representations.now
      ++ codes " catalog " ++ shown_catalog v.default_catalog
      ++ codes " namespace " ++ shown_list shown_text v.default_namespace.now

  -- version ID schema ID time MS, and its lists
  abbrev pub shown_version : ViewVersion → List ℕ
  shown_version v = codes "version " ++ signed_decimal v.version_id ++ codes " schema " ++ signed_decimal v.schema_id ++ codes " time " ++ signed_decimal v.timestamp_ms ++ shown_lists v
