use Rattle.moves.proofs.Proved.{calls_stand}
use Rattle.moves.proofs.calls_stand.Goals as goal

pub returns : goal.returns
returns c = calls_stand
