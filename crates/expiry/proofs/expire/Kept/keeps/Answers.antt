use Rattle.std.proofs.Common.{rules}
use Rattle.expiry.specs.Expiry.{keeps_id}
use Rattle.register.proofs.Ids.{asks_id}
use Rattle.expiry.proofs.expire.Kept.keeps.Goals as goal
use borrow.Author.Tests.{tests}

pub returns-then-id-self : goal.returns-then-id-self
unfolding keeps_id
returns-then-id-self c = search (rules, tests, asks_id c.args.id c.args.self.now.current)

pub returns-else-id-self : goal.returns-else-id-self
unfolding keeps_id
returns-else-id-self c = search (rules, tests, asks_id c.args.id c.args.self.now.current)
