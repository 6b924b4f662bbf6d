use Rattle.std.proofs.Common.{rules, ap, ◌∙◌, take, drop}
use Rattle.std.proofs.lemmas.Iterator.{YieldsList-from_slice}
use Rattle.std.proofs.lemmas.Iterator.Search.{position_from_yields_List}
use Rattle.cursor.proofs.Positions.{unwrap_or-position}
use Rattle.cursor.specs.Line.{is_blank}
use Rattle.cursor.proofs.cursor.split_word.Goals as goal

pub returns : goal.returns
returns c =
    let line = c.args.line.now in
    let e = position_from_yields_List is_blank _ _ _ c.position.ensures.ran (YieldsList-from_slice line cc) (λ x b q k. search rules) in
    let f = unwrap_or-position is_blank line _ _ e c.unwrap_or.ensures in
    record { word = c.split_at.ensures.front ∙ ap (λ n. take n line) f; after = c.split_at.ensures.back ∙ ap (λ n. drop n line) f }
