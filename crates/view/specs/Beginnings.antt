-- What beginning a view answers. Assumes nothing.
use Rattle.std.specs.Prelude.{◌≡◌, Ok, Err, Result}
use Rattle.model.specs.Bytes.{Bytes}
use Rattle.model.specs.Refusals as refusals
use Rattle.model.specs.State.{Metadata}
use Rattle.model.specs.Start.{empty}
use Rattle.fault.specs.Meaning.{fault_of}
use Rattle.fault.specs.declared.fault.Fault.{Fault}
use Rattle.view.specs.declared.begin.Beginning.{Beginning}

-- the metadata that the builder starts from, or a refusal
abbrev pub begun : {C : Type 0} → Result Beginning Fault → Result (Metadata C) refusals.Fault
begun (Ok x) = Ok (empty x.uuid)
begun (Err f) = Err (fault_of f)

-- an accepted beginning has the text block that was handed in
abbrev pub over_text : Bytes → Result Beginning Fault → Type 0
over_text block (Ok x) = x.text.now ≡ block
over_text block (Err f) = Unit {0}
