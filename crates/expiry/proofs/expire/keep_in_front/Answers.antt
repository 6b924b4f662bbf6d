use Rattle.std.proofs.Common.{◌≡◌, ◌<◌, Bool, length, sym, ap, ◌∙◌, arith, w32, rules}
use Rattle.std.proofs.lemmas.Int.{to_z-of_z}
use Rattle.expiry.specs.Expiry.{keeps_id}
use Rattle.expiry.proofs.Fronts.{count_yes, front_yes, count_no, front_no}
use Rattle.expiry.proofs.expire.keep_in_front.Goals as goal
use Rattle.expiry.proofs.expire.keep_in_front.Goals.{then-keeps, else-keeps}

pub loop-i-preserved : goal.loop-i-preserved
loop-i-preserved g c =
    let xs = c.args.slots.now in
    let q : g.row.T.Denot → Bool = λ v. keeps_id c.args.kept (g.T.Identified.named v) in
    let y = c.index-slots-i.result in
    let is : q y ≡ c.keeps.result = ap (keeps_id c.args.kept) (sym (to_z-of_z w32 c.id.result (search rules) ∙ c.id.ensures)) ∙ sym c.keeps.ensures in
    let h : c.loop-i.i < length xs = omega (arith, c.loop-i-test.true, c.min-i-end.ensures) in
    let inv = c.loop-i.invariant in
    elim c.if-keeps.branch [
      | then-keeps w ↦ (
        omega (arith, w.count-is, inv.0),
        w.count-is ∙ count_yes q xs c.loop-i.slots c.loop-i.i c.loop-i.count y h inv.0 inv.1 inv.2 c.index-slots-i.is (is ∙ w.if-keeps.true),
        w.slots-is ∙ front_yes q xs c.loop-i.slots c.loop-i.i c.loop-i.count y h inv.0 inv.1 inv.2 c.index-slots-i.is (is ∙ w.if-keeps.true),
      )
      | else-keeps w ↦ (
        omega (arith, w.count-is, inv.0),
        w.count-is ∙ count_no q xs c.loop-i.slots c.loop-i.i c.loop-i.count y h inv.0 inv.1 inv.2 c.index-slots-i.is (is ∙ w.if-keeps.false),
        w.slots-is ∙ front_no q xs c.loop-i.slots c.loop-i.i c.loop-i.count y h inv.0 inv.1 inv.2 c.index-slots-i.is (is ∙ w.if-keeps.false),
      )
    ]
