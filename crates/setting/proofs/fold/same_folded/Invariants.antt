use Rattle.std.proofs.Common.{◌≡◌, eqb, drop}
use Rattle.model.specs.Bytes.{same_list, same_bytes, fold, folded}
use Rattle.setting.proofs.fold.same_folded.Given as goal

abbrev pub invariant-loop-i : goal.invariant-loop-i
invariant-loop-i l = same_list (λ x y. eqb (fold x) (fold y)) (drop l.i l.a) (drop l.i l.b) ≡ same_bytes (folded l.a) (folded l.b)
