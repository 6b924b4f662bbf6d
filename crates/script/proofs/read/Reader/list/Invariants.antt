use Rattle.std.proofs.Common.{◌≡◌, ◌+◌, vec_len}
use Rattle.script.proofs.read.Reader.list.Given as goal

abbrev pub invariant-loop-count : goal.invariant-loop-count
invariant-loop-count g l = vec_len l.held ≡ l.from + l.count
