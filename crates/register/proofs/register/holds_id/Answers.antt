use Rattle.std.proofs.Common.{rules, ◌∙◌}
use Rattle.std.proofs.lemmas.Iterator.{YieldsList-from_slice}
use Rattle.std.proofs.lemmas.Iterator.Search.{any_from_yields_List}
use Rattle.model.specs.Ids.{same_number}
use Rattle.register.proofs.Ids.{any_mapped, asks_id}
use Rattle.register.proofs.register.holds_id.Goals as goal
use borrow.Author.Tests.{tests}

pub returns : goal.returns
returns g c =
    any_from_yields_List (λ x. same_number (g.T.Identified.named x) c.args.id) c.any.new.self _ c.any.result c.any.ensures.ran (YieldsList-from_slice c.args.items.now (cc))
    (λ x b q k. search (rules, tests, asks_id (g.T.Identified.named x.now) c.args.id))
    ∙ any_mapped g.T.Identified.named (λ j. same_number j c.args.id) c.args.items.now
