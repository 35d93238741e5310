use Rattle.std.proofs.Common.{◌≡◌, map, drop}
use Rattle.cubes.specs.Cubes.{meets}
use Rattle.cubes.proofs.cube.meets.Given as goal

abbrev pub invariant-loop-i : goal.invariant-loop-i
invariant-loop-i g l =
    let s = g.P.Part.set in
    meets (drop l.i (map s l.a)) (drop l.i (map s l.b)) ≡ meets (map s l.a) (map s l.b)
