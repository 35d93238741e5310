use Rattle.std.proofs.Common.{◌≡◌, map, take, replicate}
use Rattle.cubes.proofs.area.clear.Given as goal

abbrev pub invariant-loop-part : goal.invariant-loop-part
invariant-loop-part g l = let s = g.P.Part.set in take l.part-index (map s l.area) ≡ replicate l.part-index 0
