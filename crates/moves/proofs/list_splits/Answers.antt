use Rattle.moves.proofs.Proved.{list_splits}
use Rattle.moves.proofs.list_splits.Goals as goal

pub returns : goal.returns
returns c = list_splits
