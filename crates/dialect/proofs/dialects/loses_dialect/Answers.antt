use Rattle.std.proofs.Common.{rules, map, ◌∙◌}
use Rattle.std.proofs.lemmas.Iterator.{YieldsList-from_slice}
use Rattle.std.proofs.lemmas.Iterator.Search.{any_from_yields_List}
use Rattle.dialect.specs.Folding.{folded_dialect}
use Rattle.register.proofs.Ids.{any_mapped}
use Rattle.dialect.proofs.Names.{missing, loses_is}
use Rattle.dialect.proofs.dialects.loses_dialect.Goals as goal
use borrow.Author.Tests.{tests}

pub returns : goal.returns
returns c =
    any_from_yields_List (λ r. missing (map (folded_dialect c.args.block.now) c.args.current.now.representations.now) (folded_dialect c.args.block.now r)) c.any.new.self _ c.any.result c.any.ensures.ran
    (YieldsList-from_slice c.args.previous.now.representations.now (cc)) (λ x b q k. search (rules, tests))
    ∙ any_mapped (folded_dialect c.args.block.now) (missing (map (folded_dialect c.args.block.now) c.args.current.now.representations.now)) c.args.previous.now.representations.now
    ∙ loses_is c.args.block.now c.args.previous.now c.args.current.now
