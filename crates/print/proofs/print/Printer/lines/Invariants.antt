-- The items so far are printed.
use Rattle.std.proofs.Common.{◌≡◌, ◌++◌, take}
use Rattle.print.specs.Records.{shown_lines}
use Rattle.print.proofs.print.Printer.lines.Given as goal

abbrev pub invariant-loop-item : goal.invariant-loop-item
invariant-loop-item g l =
    (l.self.out.items ≡ l.fn.self.out.items ++ shown_lines l.words (g.T.Printed.printed l.fn.self.block.now) (take l.item-index l.items))
    × (l.self.block ≡ l.fn.self.block)
