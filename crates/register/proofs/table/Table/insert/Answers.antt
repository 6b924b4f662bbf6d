use Rattle.std.proofs.Common.{◌≡◌, false, rules}
use Rattle.register.specs.Tables.{is_full}
use Rattle.register.proofs.Moves.{inserted_is}
use Rattle.register.proofs.table.Table.insert.Goals as goal

pub returns-clause-table : goal.returns-clause-table
returns-clause-table g c =
    let free : is_full c.args.self.now ≡ false = search rules in
    inserted_is c.args.self.now c.push.new.self c.args.at c.args.x free c.push.ensures.table c.min-at.result c.rotate_right.new.self c.min-at.ensures c.rotate_right.ensures.after
