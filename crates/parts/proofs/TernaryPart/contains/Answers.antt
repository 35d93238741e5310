use Rattle.std.proofs.Common.{arith}
use Rattle.std.proofs.lemmas.Bool.Decides.{nat_tests}
use Rattle.parts.proofs.Bits.{has-none, has_only, has_all}
use Rattle.parts.proofs.TernaryPart.contains.Goals as goal

pub returns-in-Zero : goal.returns-in-Zero
returns-in-Zero c = rw c.in-Zero.is (grind (arith, nat_tests, has_only 0 c.args.v))

pub returns-in-One : goal.returns-in-One
returns-in-One c = rw c.in-One.is (grind (arith, nat_tests, has_only 1 c.args.v))

pub returns-in-Both : goal.returns-in-Both
returns-in-Both c = rw c.in-Both.is (grind (arith, nat_tests, has_all 2 c.args.v))

pub returns-in-Void : goal.returns-in-Void
returns-in-Void c = rw c.in-Void.is (grind (arith, nat_tests, has-none c.args.v))
