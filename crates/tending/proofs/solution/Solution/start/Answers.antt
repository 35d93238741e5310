use Rattle.std.proofs.Common.{arith}
use Rattle.tending.proofs.Places.{places_within}
use Rattle.tending.proofs.solution.Solution.start.Goals as goal

pub start_cards-requires-clause-fits : goal.start_cards-requires-clause-fits
start_cards-requires-clause-fits g c =
    let S = c.args.self.now in
    omega (arith, places_within S.p S.n S.count S.within, S.fits)
