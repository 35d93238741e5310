use Rattle.moves.proofs.Proved.{spare_rest}
use Rattle.moves.proofs.spare_by_rest.Goals as goal

pub returns : goal.returns
returns c = spare_rest
