-- The items so far are printed.
use Rattle.std.proofs.Common.{◌≡◌, ◌++◌, codes, take, flat_map}
use Rattle.print.proofs.print.Printer.list.Given as goal

abbrev pub invariant-loop-item : goal.invariant-loop-item
invariant-loop-item g l =
    (l.self.out.items ≡ l.fn.self.out.items ++ (codes "[" ++ flat_map (λ x. codes " " ++ g.T.Printed.printed l.fn.self.block.now x) (take l.item-index l.items)))
    × (l.self.block ≡ l.fn.self.block)
