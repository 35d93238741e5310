use Rattle.moves.proofs.Proved.{expand_prime}
use Rattle.moves.proofs.expand_is_prime.Goals as goal

pub returns : goal.returns
returns c = expand_prime
