use Rattle.std.proofs.Common.{◌≡◌, ◌-◌, length, get_or, pos, ◌+ℤ◌, ◌∙◌, ap₂, arith, w64, SFits, to_z, of_z, rules}
use lib.Signed.{lt_z}
use mir.Syntax.{w128}
use Rattle.std.proofs.lemmas.Int.{ints}
use Rattle.std.proofs.lemmas.Bool.{ltb-false}
use Rattle.dialect.proofs.Early.{no_entry, early_last}
use Rattle.dialect.proofs.time.too_early.Goals as goal

pub returns-in-len1-up : goal.returns-in-len1-up
returns-in-len1-up c =
    let f : SFits w64 (get_or c.args.log.now (length c.args.log.now - 1) no_entry).timestamp_ms = search rules in
    let h = c.from.ensures in
    let k = c.from-in-len1-up.ensures in
    let p : to_z w128 (of_z w128 (to_z w128 (of_z w128 c.from.result) +ℤ pos 60000)) ≡ c.args.timestamp_ms +ℤ pos 60000 = omega (arith, ints) in
    let q : to_z w128 (of_z w128 c.from-in-len1-up.result) ≡ (get_or c.args.log.now (length c.args.log.now - 1) no_entry).timestamp_ms = omega (arith, ints) in
    ap₂ lt_z p q ∙ early_last c.args.timestamp_ms c.args.log.now (omega (arith, ltb-false))
