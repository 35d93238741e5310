use Rattle.moves.proofs.Proved.{spare_exact}
use Rattle.moves.proofs.spare_is_exact.Goals as goal

pub returns : goal.returns
returns c = spare_exact
