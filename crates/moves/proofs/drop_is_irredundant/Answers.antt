use Rattle.moves.proofs.Proved.{drop_irredundant}
use Rattle.moves.proofs.drop_is_irredundant.Goals as goal

pub returns : goal.returns
returns c = drop_irredundant
