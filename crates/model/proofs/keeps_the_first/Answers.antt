use Rattle.model.proofs.keeps_the_first.Goals as goal
use Rattle.model.proofs.Laws.{keep_law}

pub returns : goal.returns
returns g c = keep_law
