use Rattle.std.proofs.Common.{sym, ap, ◌∙◌}
use Rattle.model.specs.Bytes.{repeats, same_bytes}
use Rattle.dialect.specs.Folding.{folded_dialect}
use Rattle.dialect.proofs.Names.{repeats_none, repeats_first, dialects_are}
use Rattle.dialect.proofs.dialects.require_unique_dialects.Goals as goal

pub returns-then-has_dialect : goal.returns-then-has_dialect
returns-then-has_dialect c =
    repeats_first (folded_dialect c.args.block.now) same_bytes c.loop-left.left.now _ c.in-len1-up.len_at_least (sym c.if-has_dialect.true ∙ c.has_dialect.ensures)
    ∙ c.loop-left.invariant ∙ ap (repeats same_bytes) (dialects_are c.args.block.now c.args.version.now)

pub returns : goal.returns
returns c =
    repeats_none (folded_dialect c.args.block.now) same_bytes c.loop-left.left.now c.in_default.len_below
    ∙ c.loop-left.invariant ∙ ap (repeats same_bytes) (dialects_are c.args.block.now c.args.version.now)
