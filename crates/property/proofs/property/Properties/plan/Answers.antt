use Rattle.std.proofs.Common.{sym}
use Rattle.property.proofs.Decided.{plan_full, plan_fits}
use Rattle.property.proofs.property.Properties.plan.Goals as goal

pub returns-then-effect-self : goal.returns-then-effect-self
returns-then-effect-self c = plan_full c.args.block.now c.args.updates.now c.args.self.now _ c.in_ok-check.ensures c.effect-effect.ensures.new_keys (rw (sym c.items.ensures) c.if-effect-self.true)

pub returns : goal.returns
returns c = plan_fits c.args.block.now c.args.updates.now c.args.self.now _ c.in_ok-check.ensures c.effect-effect.ensures.new_keys _ (rw (sym c.items.ensures) c.if-effect-self.false) c.effect-effect.ensures.changes
