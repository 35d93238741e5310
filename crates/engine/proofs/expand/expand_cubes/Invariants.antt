use Rattle.std.proofs.Common.{map, take}
use Rattle.cubes.specs.Lists.{sets_of}
use Rattle.moves.specs.Expand.{expanding}
use Rattle.moves.specs.Items.{started, waits}
use Rattle.moves.specs.Sound.{Apart}
use Rattle.moves.proofs.Taking.{tally}
use Rattle.tending.specs.Solutions.{SameAreas, BehindStays, items, left}
use Rattle.engine.proofs.Turns.{Turned}
use Rattle.engine.proofs.expand.expand_cubes.Given as goal

abbrev pub invariant-loop-at : goal.invariant-loop-at
invariant-loop-at g l =
    let s = g.P.Part.set in
    let V = l.fn.solution in
    let U = take V.p (map s l.universe) in
    let R = sets_of s l.off in
    record {
      turned : Turned (g.O.Order.before l.order) (expanding U R) V.n (started (left s V)) (items s l.solution);
      apart : Apart R (left s l.solution);
      areas : SameAreas V l.solution;
      behind : BehindStays V l.solution;
    }

abbrev pub decreases-loop-at : goal.decreases-loop-at
decreases-loop-at g l = tally waits (items g.P.Part.set l.solution)
