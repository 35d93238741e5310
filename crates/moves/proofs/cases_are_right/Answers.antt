use Rattle.moves.proofs.Proved.{all_right}
use Rattle.moves.proofs.cases_are_right.Goals as goal

pub returns : goal.returns
returns c = all_right
