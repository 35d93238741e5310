use Rattle.moves.proofs.Proved.{kept_alike}
use Rattle.moves.proofs.kept_is_alike.Goals as goal

pub returns : goal.returns
returns c = kept_alike
