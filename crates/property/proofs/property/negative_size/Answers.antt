use Rattle.std.proofs.Common.{◌∙◌, rules, tests}
use Rattle.std.proofs.lemmas.Iterator.{YieldsList-from_slice}
use Rattle.std.proofs.lemmas.Iterator.Search.{position_from_yields_List}
use Rattle.text.specs.Properties.{property_of}
use Rattle.property.proofs.Tested.{asks, size_found}
use Rattle.property.proofs.property.negative_size.Goals as goal

pub returns : goal.returns
returns c =
    let f = property_of c.args.block.now in
    position_from_yields_List (asks f) _ _ _ c.position.ensures.ran (YieldsList-from_slice c.args.updates.now cc) (λ x b q k. search (rules, tests)) ∙ size_found f c.args.updates.now
