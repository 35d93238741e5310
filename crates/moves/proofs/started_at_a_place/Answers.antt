use Rattle.moves.proofs.Proved.{started_at}
use Rattle.moves.proofs.started_at_a_place.Goals as goal

pub returns : goal.returns
returns c = started_at
