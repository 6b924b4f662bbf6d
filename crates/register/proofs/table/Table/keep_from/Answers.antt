use Rattle.std.proofs.Common.{ap, length, ◌∙◌}
use Rattle.std.proofs.lemmas.List.{length-take}
use Rattle.register.proofs.Moves.{kept_is}
use Rattle.register.proofs.table.Table.keep_from.Goals as goal

pub returns : goal.returns
returns g c =
    kept_is c.args.self.now c.args.start _ c.min-start.result c.copy_within.new.self (ap length c.items-end.ensures ∙ length-take c.args.self.now.held c.args.self.now.slots.now) c.min-start.ensures
    c.copy_within.ensures.after
