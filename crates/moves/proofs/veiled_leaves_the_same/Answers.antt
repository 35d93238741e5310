use Rattle.moves.proofs.Proved.{veiled_rest}
use Rattle.moves.proofs.veiled_leaves_the_same.Goals as goal

pub returns : goal.returns
returns c = veiled_rest
