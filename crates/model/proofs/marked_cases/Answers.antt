use Rattle.model.proofs.marked_cases.Goals as goal
use Rattle.model.proofs.CasesHold.{cases_hold}

pub returns : goal.returns
returns c = cases_hold
