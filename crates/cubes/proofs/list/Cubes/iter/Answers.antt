use Rattle.std.proofs.Common.{arith}
use Rattle.cubes.proofs.Areas.{length-cubes}
use Rattle.cubes.proofs.list.Cubes.iter.Goals as goal

pub returns-clause-bound : goal.returns-clause-bound
returns-clause-bound g c = let n = c.args.self.now.n in omega (arith, length-cubes c.args.self.now.p n c.args.self.now.parts.now)
