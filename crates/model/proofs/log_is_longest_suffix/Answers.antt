use Rattle.model.proofs.log_is_longest_suffix.Goals as goal
use Rattle.model.proofs.Laws.{log_law}

pub returns : goal.returns
returns g c = log_law
