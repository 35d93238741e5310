use Rattle.std.proofs.Common.{arith}
use lib.Bits.{or_mod}
use Rattle.parts.proofs.Shown.{is_joined}
use Rattle.parts.proofs.WordPart.joined.Goals as goal

pub returns : goal.returns
returns c = is_joined _ _ _ (omega (arith, or_mod c.args.self.0 c.args.other.0 64))
