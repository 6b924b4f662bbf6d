use Rattle.std.proofs.Common.{sym, rules, map, ◌∙◌}
use Rattle.std.proofs.lemmas.Iterator.{YieldsList-from_slice, YieldsList-from_map}
use Rattle.std.proofs.lemmas.Iterator.Consumers.{reduce_by_from_yields_List}
use Rattle.std.specs.Int.{int_max}
use Rattle.std.proofs.lemmas.Iterator.Adapters.{option_map_id}
use Rattle.register.proofs.Ids.{greater_is, highest_is}
use Rattle.register.proofs.register.highest_of.Goals as goal
use borrow.Author.Tests.{tests}

pub returns : goal.returns
returns g c =
    sym (option_map_id c.max.result)
    ∙ reduce_by_from_yields_List _ int_max c.map.result c.max.result greater_is c.max.ensures.ran (YieldsList-from_map _ g.T.Identified.named (YieldsList-from_slice c.args.items.now (cc)) c.map.ensures.closure (λ x r q k. search (rules, tests)))
    ∙ highest_is (map g.T.Identified.named c.args.items.now)
