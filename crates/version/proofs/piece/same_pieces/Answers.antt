use Rattle.std.proofs.Common.{rules, ◌∙◌}
use Rattle.std.proofs.lemmas.Iterator.{YieldsList-from_slice, YieldsList-from_zip}
use Rattle.std.proofs.lemmas.Iterator.Search.{all_from_yields_List}
use Rattle.version.proofs.Looped.{alike_at, matched}
use Rattle.version.proofs.piece.same_pieces.Goals as goal
use borrow.Author.Tests.{tests}

pub returns-then-left-right : goal.returns-then-left-right
returns-then-left-right g c =
    all_from_yields_List (alike_at (g.T.Piece.meant c.args.block.now) g.T.Piece.alike) c.all.new.self _ c.all.result c.all.ensures.ran
    (YieldsList-from_zip (YieldsList-from_slice c.args.left.now (cc)) (YieldsList-from_slice c.args.right.now (cc))) (λ x b q k. search (rules, tests))
    ∙ matched (g.T.Piece.meant c.args.block.now) g.T.Piece.alike c.args.left.now c.args.right.now c.if-left-right.true
