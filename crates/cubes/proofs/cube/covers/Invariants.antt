use Rattle.std.proofs.Common.{◌≡◌, map, drop}
use Rattle.cubes.specs.Cubes.{covers}
use Rattle.cubes.proofs.cube.covers.Given as goal

abbrev pub invariant-loop-i : goal.invariant-loop-i
invariant-loop-i g l =
    let s = g.P.Part.set in
    covers (drop l.i (map s l.a)) (drop l.i (map s l.b)) ≡ covers (map s l.a) (map s l.b)
