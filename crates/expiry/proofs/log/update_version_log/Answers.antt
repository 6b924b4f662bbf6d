use Rattle.std.proofs.Common.{rules, map, reverse, ◌∙◌}
use Rattle.std.proofs.lemmas.Iterator.Consumers.{count_from_yields_List}
use Rattle.std.proofs.lemmas.Iterator.Adapters.{YieldsList-from_rev_slice}
use Rattle.std.proofs.lemmas.Iterator.Search.{YieldsList-from_take_while}
use Rattle.std.proofs.lemmas.List.Folds.{length-prefix_len}
use Rattle.version.specs.Meaning.{entry_of}
use Rattle.expiry.proofs.Entries.{named_by, kept_is}
use Rattle.expiry.proofs.log.update_version_log.Goals as goal
use borrow.Author.Tests.{tests}

pub returns-clause-entries : goal.returns-clause-entries
returns-clause-entries g c =
    let ids = map g.T.Identified.named c.args.kept.now in
    kept_is entry_of ids c.args.log.now c.count.result
    (count_from_yields_List c.take_while-kept_entries.result _ c.count.ensures.ran
    (YieldsList-from_take_while _ (named_by entry_of ids) (YieldsList-from_rev_slice c.args.log.now (cc)) c.take_while-kept_entries.ensures.closure c.take_while-kept_entries.ensures.done (λ x b q k. search (rules, tests)))
    ∙ length-prefix_len (named_by entry_of ids) (reverse c.args.log.now))
