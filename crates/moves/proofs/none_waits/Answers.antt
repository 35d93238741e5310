use Rattle.moves.proofs.Proved.{none_waits}
use Rattle.moves.proofs.none_waits.Goals as goal

pub returns : goal.returns
returns c = none_waits
