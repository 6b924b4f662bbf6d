use Rattle.std.proofs.Common.{◌≡◌, ap, ◌∙◌, rules, tests}
use Rattle.std.specs.Option.{option_map}
use Rattle.std.proofs.lemmas.Iterator.{YieldsList-from_slice}
use Rattle.std.proofs.lemmas.Iterator.Search.{find_from_yields_List}
use Rattle.model.specs.Bytes.{same_bytes}
use Rattle.text.specs.Properties.{property_of}
use Rattle.register.specs.Tables.{held_in}
use Rattle.property.proofs.Tested.{found_value}
use Rattle.property.proofs.property.Properties.look_up.Goals as goal

pub returns : goal.returns
returns c =
    let f = property_of c.args.block.now in
    let m : option_map (λ v. v.now) c.map.result ≡ option_map (λ q. (f q).value) (option_map (λ q. q.now) c.find.result) = search rules in
    m
    ∙ (ap (option_map (λ q. (f q).value)) (find_from_yields_List (λ q. same_bytes (f q).key c.args.key.now) _ _ _ c.find.ensures.ran (YieldsList-from_slice (held_in c.args.self.now.table) cc) (λ x b q k. search (rules, tests)))
    ∙ found_value f c.args.key.now (held_in c.args.self.now.table))
