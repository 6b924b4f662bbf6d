use Rattle.std.proofs.Common.{sym, rules, map, filter, ◌∙◌}
use Rattle.std.proofs.lemmas.Iterator.{YieldsList-from_slice, YieldsList-from_map}
use Rattle.std.proofs.lemmas.Iterator.Consumers.{YieldsList-at, YieldsList-from_filter, reduce_by_from_yields_List}
use Rattle.std.specs.Int.{int_min}
use Rattle.std.proofs.lemmas.Iterator.Adapters.{option_map_id}
use Rattle.register.proofs.Ids.{less_is, lowest_is}
use Rattle.register.proofs.register.lowest_like.Goals as goal
use borrow.Author.Tests.{tests}

pub returns : goal.returns
returns g c =
    sym (option_map_id c.min.result)
    ∙ reduce_by_from_yields_List _ int_min c.map-ids.result c.min.result less_is c.min.ensures.ran
    (YieldsList-from_map _ g.T.Identified.named
    (YieldsList-at c.map-ids.ensures.source (YieldsList-from_filter _ (λ x. g.T.Numbered.alike (g.T.Numbered.content c.args.block.now x) (g.T.Numbered.content c.args.block.now c.args.thing.now)) (YieldsList-from_slice c.args.items.now (cc)) c.filter.ensures.closure (λ x b q k. search (rules, tests))))
    c.map-ids.ensures.closure (λ x r q k. search (rules, tests)))
    ∙ lowest_is (map g.T.Identified.named (filter (λ x. g.T.Numbered.alike (g.T.Numbered.content c.args.block.now x) (g.T.Numbered.content c.args.block.now c.args.thing.now)) c.args.items.now))
