use Rattle.std.proofs.Common.{arith}
use lib.Bits.{and_mod}
use Rattle.parts.proofs.Shown.{is_common}
use Rattle.parts.proofs.WordPart.common.Goals as goal

pub returns : goal.returns
returns c = is_common _ _ _ (omega (arith, and_mod c.args.self.0 c.args.other.0 64))
