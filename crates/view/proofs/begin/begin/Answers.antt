use Rattle.std.proofs.Common.{sym, ◌∙◌}
use Rattle.model.specs.Texts.{block_fits}
use Rattle.fault.specs.Meaning.{fault_of}
use Rattle.fault.specs.Layers.{text_fault}
use Rattle.view.proofs.Outcomes.{err_means}
use Rattle.view.proofs.Starts.{format_refused, block_refused, accepted, begun_by}
use Rattle.view.proofs.begin.begin.Goals as goal

pub returns-in_err-check_format-clause-answer : goal.returns-in_err-check_format-clause-answer
returns-in_err-check_format-clause-answer c =
    let f = c.in_err-check_format.field-0.0 in
    begun_by c.from_residual.result (fault_of f) (err_means c.from_residual.result f c.from_residual.ensures.1)
    ∙ sym (format_refused c.args.format_version c.args.uuid (block_fits c.args.text.now) (fault_of f) c.in_err-check_format.ensures)

pub returns-in_err-check_block-clause-answer : goal.returns-in_err-check_block-clause-answer
returns-in_err-check_block-clause-answer c =
    begun_by c.from_residual-in_err-check_block.result text_fault c.from_residual-in_err-check_block.ensures.1
    ∙ sym (block_refused c.args.format_version c.args.uuid (block_fits c.args.text.now) c.in_ok-check_format.ensures (sym c.in_err-check_block.ensures))

pub returns-clause-answer : goal.returns-clause-answer
returns-clause-answer c = sym (accepted c.args.format_version c.args.uuid (block_fits c.args.text.now) c.in_ok-check_format.ensures (sym c.in_ok-check_block.ensures))
