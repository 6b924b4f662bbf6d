use Rattle.std.proofs.Common.{◌≡◌, map, length}
use Rattle.model.specs.Bytes.{repeats, same_bytes}
use Rattle.dialect.specs.Folding.{folded_dialect}
use Rattle.dialect.proofs.dialects.require_unique_dialects.Given as goal

abbrev pub invariant-loop-left : goal.invariant-loop-left
invariant-loop-left l = repeats same_bytes (map (folded_dialect l.block) l.left) ≡ repeats same_bytes (map (folded_dialect l.block) l.version.representations.now)

abbrev pub decreases-loop-left : goal.decreases-loop-left
decreases-loop-left l = length l.left
