use Rattle.std.proofs.Common.{rules, ◌-◌, ◌^◌, sym, ap, ◌∙◌, arith}
use Rattle.std.proofs.lemmas.Bool.Decides.{nat_tests}
use Rattle.model.specs.Numbers.{digits, at_most}
use Rattle.setting.proofs.Readings.{number_folded, numeral_is}
use Rattle.setting.proofs.number.numeral.Goals as goal

pub returns : goal.returns
returns c =
    number_folded (2 ^ 64 - 1) _ (λ f n x v h k. search rules) _ _ _ _ 0 c.try_fold.result (omega arith) c.try_fold.ensures.ran
    ∙ ap (λ bs. at_most (2 ^ 64 - 1) (digits 0 bs)) c.iter.ensures.rest
    ∙ ap (at_most (2 ^ 64 - 1)) (sym (numeral_is c.args.bytes.now (grind (arith, nat_tests, c.if-is_empty.ensures))))
