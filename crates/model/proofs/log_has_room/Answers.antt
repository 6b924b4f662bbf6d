use Rattle.model.proofs.log_has_room.Goals as goal
use Rattle.model.proofs.Laws.{log_room_law}

pub returns : goal.returns
returns g c = log_room_law
