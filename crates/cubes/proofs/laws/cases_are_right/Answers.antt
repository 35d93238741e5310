use Rattle.cubes.proofs.Proved.{all_right}
use Rattle.cubes.proofs.laws.cases_are_right.Goals as goal

pub returns : goal.returns
returns c = all_right
