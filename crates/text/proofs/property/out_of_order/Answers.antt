use Rattle.std.proofs.Common.{rules, ◌≡◌, ◌+◌, ◌∙◌}
use Rattle.std.specs.Option.{option_map}
use Rattle.std.proofs.lemmas.Iterator.{YieldsList-from_slice, YieldsList-from_zip}
use Rattle.std.proofs.lemmas.Iterator.Adapters.{YieldsList-from_skip}
use Rattle.std.proofs.lemmas.Iterator.Search.{position_from_yields_List}
use Rattle.text.specs.Properties.{property_of}
use Rattle.text.proofs.Orders.{falls, first_out}
use Rattle.text.proofs.property.out_of_order.Goals as goal
use borrow.Author.Tests.{tests}

pub returns : goal.returns
returns c =
    (let e : c.map.result ≡ option_map (λ k. k + 1) c.position.result = search rules in e)
    ∙ first_out (property_of c.args.block.now) c.args.properties.now c.position.result
    (position_from_yields_List (falls (property_of c.args.block.now)) c.position.new.self _ c.position.result c.position.ensures.ran
    (YieldsList-from_zip (YieldsList-from_slice c.args.properties.now (cc)) (YieldsList-from_skip 1 (YieldsList-from_slice c.args.properties.now (cc)) (cc)))
    (λ x b q k. search (rules, tests)))
