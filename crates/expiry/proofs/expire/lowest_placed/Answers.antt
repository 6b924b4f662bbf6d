use Rattle.std.proofs.Common.{rules, map, None, ◌∙◌}
use Rattle.std.proofs.lemmas.Iterator.{YieldsList-from_slice, YieldsList-from_map}
use Rattle.std.proofs.lemmas.Iterator.Consumers.{fold_from_yields_List}
use Rattle.expiry.specs.Expiry.{has_place}
use Rattle.expiry.proofs.Places.{better, lowest_by_turns}
use Rattle.expiry.proofs.expire.lowest_placed.Goals as goal
use borrow.Author.Tests.{tests}

pub returns : goal.returns
returns g c =
    let test = has_place (map g.T.Identified.named c.args.items.now) c.args.places in
    fold_from_yields_List _ (better test) None c.fold.result c.fold.ensures.ran
    (YieldsList-from_map _ g.T.Identified.named (YieldsList-from_slice c.args.items.now (cc)) c.map.ensures.closure (λ x r q k. search (rules, tests)))
    (λ best x b q k. search (rules, tests))
    ∙ lowest_by_turns test g.T.Identified.named None c.args.items.now
