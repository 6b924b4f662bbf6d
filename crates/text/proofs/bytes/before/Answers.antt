use Rattle.text.proofs.Compared.{before_is}
use Rattle.text.proofs.bytes.before.Goals as goal

pub returns : goal.returns
returns c = before_is c.args.a.now c.args.b.now _ c.lt.ensures
