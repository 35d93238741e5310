use Rattle.moves.proofs.Proved.{finish_ends}
use Rattle.moves.proofs.finish_ends.Goals as goal

pub returns : goal.returns
returns c = finish_ends
