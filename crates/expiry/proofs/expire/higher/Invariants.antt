use Rattle.std.proofs.Common.{◌≡◌, ◌≤◌, length, take, filter, int_lt}
use Rattle.expiry.proofs.expire.higher.Given as goal

abbrev pub invariant-loop-v : goal.invariant-loop-v
invariant-loop-v g l = (l.count ≤ l.v-index) × (l.count ≡ length (filter (λ v. int_lt l.id (g.T.Identified.named v)) (take l.v-index l.items)))
