use Rattle.model.proofs.replay_gives_the_same.Goals as goal
use Rattle.model.proofs.Laws.{replay_law}

pub returns : goal.returns
returns g c = replay_law
