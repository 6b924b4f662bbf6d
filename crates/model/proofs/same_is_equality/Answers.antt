use Rattle.model.proofs.same_is_equality.Goals as goal
use Rattle.model.proofs.Sames.{same_law}

pub returns : goal.returns
returns c = same_law
