-- The bytes so far are printed.
use Rattle.std.proofs.Common.{◌≡◌, ◌++◌, take, flat_map}
use Rattle.quote.specs.Quotes.{hex_digits}
use Rattle.print.proofs.print.Printer.uuid.Given as goal

abbrev pub invariant-loop-byte : goal.invariant-loop-byte
invariant-loop-byte l =
    (l.self.out.items ≡ l.fn.self.out.items ++ flat_map hex_digits (take l.byte-index l.fn.uuid))
    × (l.self.block ≡ l.fn.self.block)
