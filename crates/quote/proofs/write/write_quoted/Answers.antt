use Rattle.quote.proofs.Inverse.{reads_back}
use Rattle.quote.proofs.write.write_quoted.Goals as goal

pub returns-then-is_err-clause-inverse : goal.returns-then-is_err-clause-inverse
returns-then-is_err-clause-inverse c = reads_back c.args.bytes.now c.type_inv.bytes

pub returns-else-is_err-clause-inverse : goal.returns-else-is_err-clause-inverse
returns-else-is_err-clause-inverse c = reads_back c.args.bytes.now c.type_inv.bytes
