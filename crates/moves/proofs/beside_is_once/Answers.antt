use Rattle.moves.proofs.Proved.{beside_once}
use Rattle.moves.proofs.beside_is_once.Goals as goal

pub returns : goal.returns
returns c = beside_once
