use Rattle.moves.proofs.Proved.{kept_exact}
use Rattle.moves.proofs.kept_is_exact.Goals as goal

pub returns : goal.returns
returns c = kept_exact
