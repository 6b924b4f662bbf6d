-- Dialects in lower case. Assumes nothing.
use Rattle.model.specs.Bytes.{Bytes, folded}
use Rattle.text.specs.Meaning.{bytes_of}
use Rattle.version.specs.declared.view_version.SqlViewRepresentation.{SqlViewRepresentation}

-- the dialect of a representation in lower case
abbrev pub folded_dialect : Bytes → SqlViewRepresentation → Bytes
folded_dialect block r = folded (bytes_of block r.dialect)
