use Rattle.moves.proofs.Proved.{on_stands}
use Rattle.moves.proofs.on_rows_stand.Goals as goal

pub returns : goal.returns
returns c = on_stands
