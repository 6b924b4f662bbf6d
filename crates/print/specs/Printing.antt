-- What a printer has printed. Assumes nothing.
use Rattle.std.specs.Prelude.{◌≡◌, ℕ, List, ◌++◌, Result, OnOk}
use Rattle.print.specs.declared.print.Printer.{Printer}

-- with memory the printer goes on by these bytes, over the same block
abbrev pub Prints : {T E : Type 0} → Printer → Result T E → Printer → List ℕ → Type 0
Prints before answer after bytes = OnOk answer (after.out.items ≡ before.out.items ++ bytes) × (after.block ≡ before.block)
