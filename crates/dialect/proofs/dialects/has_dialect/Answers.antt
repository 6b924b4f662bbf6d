use Rattle.std.proofs.Common.{rules, ◌∙◌}
use Rattle.std.proofs.lemmas.Iterator.{YieldsList-from_slice}
use Rattle.std.proofs.lemmas.Iterator.Search.{any_from_yields_List}
use Rattle.model.specs.Bytes.{same_bytes}
use Rattle.dialect.specs.Folding.{folded_dialect}
use Rattle.register.proofs.Ids.{any_mapped}
use Rattle.dialect.proofs.dialects.has_dialect.Goals as goal
use borrow.Author.Tests.{tests}

pub returns : goal.returns
returns c =
    any_from_yields_List (λ r. same_bytes (folded_dialect c.args.block.now c.args.like.now) (folded_dialect c.args.block.now r)) c.any.new.self _ c.any.result c.any.ensures.ran
    (YieldsList-from_slice c.args.representations.now (cc)) (λ x b q k. search (rules, tests))
    ∙ any_mapped (folded_dialect c.args.block.now) (same_bytes (folded_dialect c.args.block.now c.args.like.now)) c.args.representations.now
