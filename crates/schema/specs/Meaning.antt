-- What a sealed schema means: its content, when two are the same, its own tests. Assumes nothing.
use Rattle.std.specs.Prelude.{ℕ, Bool, false, not, ◌&&◌, ℤ, pos, Option, int_lt}
use Rattle.model.specs.Bytes.{Bytes, same_bytes}
use Rattle.model.specs.Ids.{same_number}
use Rattle.model.specs.Refusals.{first_failed}
use Rattle.text.specs.Meaning.{bytes_of, sound}
use Rattle.schema.specs.declared.sealed.SealedSchema.{SealedSchema}

-- the content of a sealed schema: its text and its greatest field number
pub record Sealed : Type 0 where
  pub text : Bytes
  pub greatest : ℤ

-- the content over a text block
abbrev pub sealed_content : Bytes → SealedSchema → Sealed
sealed_content block s = record { text = bytes_of block s.text; greatest = s.highest_field_id }

-- equal in both
abbrev pub same_sealed : Sealed → Sealed → Bool
same_sealed c d = same_number c.greatest d.greatest && same_bytes c.text d.text

-- refused where its text is bad, then where its greatest field number is below 0
abbrev pub sealed_verdict : Bytes → SealedSchema → Option ℕ
sealed_verdict block s = first_failed false (not (sound block s.text)) false (int_lt s.highest_field_id (pos 0))

-- the copy under another id
abbrev pub resealed : ℤ → SealedSchema → SealedSchema
resealed i s = record { schema_id = i; text = s.text; highest_field_id = s.highest_field_id }
