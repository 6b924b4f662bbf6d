use Rattle.std.proofs.Common.{rules}
use Rattle.model.specs.Bytes.{fold}
use Rattle.setting.proofs.Table.{entry_is}
use Rattle.setting.proofs.fold.fold.Goals as goal

pub returns : goal.returns
returns c = search (rules, entry_is fold 256)
