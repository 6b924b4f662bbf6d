use Rattle.std.proofs.Common.{vec_items, length}
use Rattle.quote.proofs.Progress.{SoFar}
use Rattle.quote.proofs.read.read_pieces.Given as goal

abbrev pub invariant-loop-byte : goal.invariant-loop-byte
invariant-loop-byte l = SoFar l.input (vec_items l.initial.out) (vec_items l.out) l.rest

abbrev pub decreases-loop-byte : goal.decreases-loop-byte
decreases-loop-byte l = length l.rest
