use Rattle.std.proofs.Common.{rules, not, ap, ◌∙◌, arith, length-drop, take_all, drop}
use Rattle.std.proofs.lemmas.Iterator.{YieldsList-from_slice}
use Rattle.std.proofs.lemmas.Iterator.Search.{position_from_yields_List}
use Rattle.cursor.proofs.Positions.{unwrap_or-position}
use Rattle.cursor.specs.Line.{is_blank}
use Rattle.cursor.proofs.cursor.past_blanks.Goals as goal

pub returns : goal.returns
returns c =
    let line = c.args.line.now in
    let e = position_from_yields_List (λ b. not (is_blank b)) _ _ _ c.position.ensures.ran (YieldsList-from_slice line cc) (λ x b q k. search rules) in
    let f = unwrap_or-position (λ b. not (is_blank b)) line _ _ e c.unwrap_or-blanks.ensures in
    take_all _ _ (omega (arith, length-drop c.unwrap_or-blanks.result line)) ∙ ap (λ n. drop n line) f
