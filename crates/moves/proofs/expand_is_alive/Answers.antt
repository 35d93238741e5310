use Rattle.moves.proofs.Proved.{expand_alive}
use Rattle.moves.proofs.expand_is_alive.Goals as goal

pub returns : goal.returns
returns c = expand_alive
