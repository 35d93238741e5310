use Rattle.tending.proofs.Settled.{settled_overlay, settled_behind}
use Rattle.tending.proofs.solution.Solution.settle.Goals as goal

pub returns-clause-cubes : goal.returns-clause-cubes
returns-clause-cubes g c =
    let S = c.args.self.now in
    settled_overlay g.P.Part.set S.p S.n S.count S.cubes.now S.within S.fits c.clear.new.area c.clear.ensures

pub returns-clause-behind : goal.returns-clause-behind
returns-clause-behind g c =
    let S = c.args.self.now in
    settled_behind g.P.Part.set S.p S.n S.count S.cubes.now S.within S.fits c.clear.new.area c.clear.ensures
