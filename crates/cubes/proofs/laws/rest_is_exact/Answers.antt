use Rattle.cubes.proofs.Proved.{rest_exact}
use Rattle.cubes.proofs.laws.rest_is_exact.Goals as goal

pub returns : goal.returns
returns c = rest_exact
