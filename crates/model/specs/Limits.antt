-- The limits of texts, ids and lists. Assumes nothing.
use Rattle.std.specs.Prelude.{ℕ}

-- bytes of the text block
abbrev pub most_block_bytes : ℕ
most_block_bytes = 65536

-- bytes of one text
abbrev pub most_text_bytes : ℕ
most_text_bytes = 4096

-- schemas of a view
abbrev pub most_schemas : ℕ
most_schemas = 64

-- versions of a view
abbrev pub most_versions : ℕ
most_versions = 64

-- log entries at the start; build may add one
abbrev pub most_opened_entries : ℕ
most_opened_entries = 255

-- log entries of a view
abbrev pub most_entries : ℕ
most_entries = 256

-- properties of a view
abbrev pub most_properties : ℕ
most_properties = 64

-- properties or keys handed to one edit
abbrev pub most_in_call : ℕ
most_in_call = 16

-- recorded changes
abbrev pub most_changes : ℕ
most_changes = 128

-- representations of a version
abbrev pub most_representations : ℕ
most_representations = 8

-- summary pairs of a version
abbrev pub most_summary_pairs : ℕ
most_summary_pairs = 8

-- parts of a version's default namespace
abbrev pub most_namespace_parts : ℕ
most_namespace_parts = 8
