-- What a kind of schema states, from the records of its bound. Assumes nothing.
use Rattle.register.specs.declared.numbered.Identified as identified
use Rattle.register.specs.declared.numbered.Numbered as numbered
use Rattle.schema.specs.declared.kind.SchemaKind as schema_kind
use Rattle.view.specs.Meaning.{Reading}

abbrev pub reading : {X : Type 0} → identified.Ghosts X → numbered.Ghosts X → schema_kind.Ghosts X → Reading X
reading i n k = record { named = i.named; initial = n.initial; Content = n.Content; content = n.content; alike = n.alike; verdict = n.verdict; copied = n.copied; greatest = k.greatest }
