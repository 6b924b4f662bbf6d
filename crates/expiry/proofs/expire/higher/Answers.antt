use Rattle.std.proofs.Common.{length, filter, sym, ap₂, ◌∙◌, int_lt, w32}
use Rattle.std.proofs.lemmas.Int.{to_z-of_z}
use Rattle.std.proofs.lemmas.List.{take_all}
use Rattle.expiry.specs.Expiry.{higher_than}
use Rattle.expiry.proofs.Meanings.{count_map}
use Rattle.expiry.proofs.expire.higher.Goals as goal

pub returns : goal.returns
unfolding higher_than
returns g c =
    c.loop-v.invariant.1
    ∙ ap₂ (λ i vs. length (filter (λ v. int_lt i (g.T.Identified.named v)) vs)) (to_z-of_z w32 c.args.id c.ranges.id) (take_all c.loop-v.v-index c.args.items.now c.loop-v-test.false)
    ∙ sym (count_map g.T.Identified.named (int_lt c.args.id) c.args.items.now)
