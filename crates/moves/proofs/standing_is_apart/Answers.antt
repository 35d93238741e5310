use Rattle.moves.proofs.Proved.{standing_apart}
use Rattle.moves.proofs.standing_is_apart.Goals as goal

pub returns : goal.returns
returns c = standing_apart
