use Rattle.cubes.proofs.Proved.{rest_apart}
use Rattle.cubes.proofs.laws.rest_is_apart.Goals as goal

pub returns : goal.returns
returns c = rest_apart
