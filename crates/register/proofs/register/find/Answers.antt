use Rattle.std.proofs.Common.{rules}
use Rattle.std.proofs.lemmas.Iterator.{YieldsList-from_slice}
use Rattle.std.proofs.lemmas.Iterator.Search.{find_from_yields_List}
use Rattle.model.specs.Ids.{same_number}
use Rattle.register.proofs.Ids.{found_is, asks_id}
use Rattle.register.proofs.register.find.Goals as goal
use borrow.Author.Tests.{tests}

pub returns : goal.returns
returns g c =
    let f = find_from_yields_List (λ x. same_number (g.T.Identified.named x) c.args.id) c.find.new.self _ c.find.result c.find.ensures.ran (YieldsList-from_slice c.args.items.now (cc))
    (λ x b q k. search (rules, tests, asks_id (g.T.Identified.named x.now) c.args.id)) in
    found_is g.T.Identified.named c.args.id c.args.items.now c.find.result c.copied.result c.copied.ensures f
