use Rattle.cubes.proofs.Proved.{worked_cover}
use Rattle.cubes.proofs.laws.cover_is_worked.Goals as goal

pub returns : goal.returns
returns c = worked_cover
