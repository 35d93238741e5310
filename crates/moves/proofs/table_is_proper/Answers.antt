use Rattle.moves.proofs.Proved.{worked_proper}
use Rattle.moves.proofs.table_is_proper.Goals as goal

pub returns : goal.returns
returns c = worked_proper
