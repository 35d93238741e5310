use Rattle.std.proofs.Common.{◌≡◌}
use Rattle.tending.specs.Solutions.{SameAreas, BehindStays, cube_left, items}
use Rattle.tending.proofs.Closing.{Kept, Leads}
use Rattle.tending.proofs.solution.Solution.close_up.Given as goal

abbrev pub invariant-loop-i : goal.invariant-loop-i
invariant-loop-i g l =
    let s = g.P.Part.set in
    let G = cube_left s l.at l.initial.self in
    let M = items s l.self in
    record {
      areas : SameAreas l.initial.self l.self;
      behind : BehindStays l.initial.self l.self;
      n : l.self.n ≡ l.initial.self.n;
      kept : Kept G l.at (items s l.initial.self) M l.k l.i;
      leads : Leads G l.at M l.lead l.k l.i;
    }
