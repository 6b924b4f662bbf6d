use Rattle.std.proofs.Common.{not, ◌&&◌, rules, tests}
use Rattle.std.proofs.lemmas.Iterator.{YieldsList-from_slice}
use Rattle.std.proofs.lemmas.Iterator.Search.{position_from_yields_List}
use Rattle.text.specs.Meaning.{sound}
use Rattle.text.specs.Properties.{property_of}
use Rattle.property.proofs.Tested.{read_as}
use Rattle.property.proofs.property.bad_text.Goals as goal

pub returns : goal.returns
returns c =
    let b = c.args.block.now in
    read_as (λ p. sound b p.key && sound b p.value) (property_of b) c.args.updates.now _
    (position_from_yields_List (λ p. not (sound b p.key && sound b p.value)) _ _ _ c.position.ensures.ran (YieldsList-from_slice c.args.updates.now cc) (λ x b q k. search (rules, tests)))
