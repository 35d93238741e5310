use Rattle.cubes.proofs.Proved.{meets_exact}
use Rattle.cubes.proofs.laws.meets_is_exact.Goals as goal

pub returns : goal.returns
returns c = meets_exact
