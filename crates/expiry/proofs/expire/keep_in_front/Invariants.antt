use Rattle.std.proofs.Common.{◌≡◌, ◌≤◌, length, take}
use Rattle.expiry.specs.Expiry.{kept_of, over_front}
use Rattle.expiry.proofs.expire.keep_in_front.Given as goal

abbrev pub invariant-loop-i : goal.invariant-loop-i
invariant-loop-i g l =
    (l.count ≤ l.i)
    × (l.count ≡ length (kept_of g.T.Identified.named l.kept (take l.i l.initial.slots)))
    × (l.slots ≡ over_front (kept_of g.T.Identified.named l.kept (take l.i l.initial.slots)) l.initial.slots)
