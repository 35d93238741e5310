use Rattle.cubes.proofs.Proved.{covers_exact}
use Rattle.cubes.proofs.laws.covers_is_exact.Goals as goal

pub returns : goal.returns
returns c = covers_exact
