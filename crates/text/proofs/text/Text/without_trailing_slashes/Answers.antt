use Rattle.std.proofs.Common.{rules, ◌≡◌, reverse, length, ◌-◌, ◌∙◌, refl, arith}
use Rattle.std.specs.List.{prefix_len}
use Rattle.std.proofs.lemmas.List.{length-drop, length-reverse}
use Rattle.std.proofs.lemmas.List.Folds.{length-prefix_len}
use Rattle.std.proofs.lemmas.Iterator.Consumers.{count_from_yields_List}
use Rattle.std.proofs.lemmas.Iterator.Adapters.{YieldsList-from_rev_slice}
use Rattle.std.proofs.lemmas.Iterator.Search.{YieldsList-from_take_while}
use Rattle.text.proofs.Slashes.{is_slash, left, trimmed_part}
use Rattle.text.proofs.text.Text.without_trailing_slashes.Goals as goal
use borrow.Author.Tests.{tests}

pub returns : goal.returns
returns c =
    let xs = c.bytes-bytes.result.now in
    let k : c.count.result ≡ prefix_len is_slash (reverse xs) =
    count_from_yields_List c.take_while-slashes.result _ c.count.ensures.ran
    (YieldsList-from_take_while _ is_slash (YieldsList-from_rev_slice xs (cc)) c.take_while-slashes.ensures.closure c.take_while-slashes.ensures.done (λ x b q k. search (rules, tests)))
    ∙ length-prefix_len is_slash (reverse xs) in
    let n : length xs - c.count.result ≡ left (reverse xs) = omega (arith, k, length-drop (prefix_len is_slash (reverse xs)) (reverse xs), length-reverse xs) in
    let p = trimmed_part c.args.block.now c.args.self.now.place c.args.self.now.length (length xs - c.count.result) c.bytes-bytes.ensures n in
    record { bytes = p.0; place = refl; length = p.1 }
