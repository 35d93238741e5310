use Rattle.std.proofs.Common.{◌≡◌, ◌++◌, map, drop}
use Rattle.table.specs.Filling.{universe_of}
use Rattle.table.proofs.begin.write_universe.Given as goal

abbrev pub invariant-loop-k : goal.invariant-loop-k
invariant-loop-k g l =
    (map g.P.Part.set l.universe ≡ universe_of l.k l.sizes ++ drop l.k (map g.P.Part.set l.initial.universe))
    × (drop l.p l.universe ≡ drop l.p l.initial.universe)
