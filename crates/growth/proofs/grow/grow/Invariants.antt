use Rattle.std.proofs.Common.{◌≡◌, not, map, take, replicate, false, count_by}
use Rattle.cubes.specs.Areas.{cube_at, cubes}
use Rattle.cubes.specs.Lists.{sets_of}
use Rattle.moves.specs.Expand.{part_weight, over, growing}
use Rattle.growth.specs.Others.{others}
use Rattle.growth.proofs.Grown.{growing_on}
use Rattle.growth.proofs.grow.grow.Given as goal

abbrev pub invariant-loop-k : goal.invariant-loop-k
invariant-loop-k g l =
    let s = g.P.Part.set in
    let p = l.off.p in
    let E = map s l.fn.solution in
    let F = cube_at p l.at E in
    let U = take p (map s l.universe) in
    let R = sets_of s l.off in
    let w = part_weight (over U F R) F (others l.at (cubes p l.n E)) in
    growing_on p w U R l.taken (map s l.f) ≡ growing p p w U R (replicate p false, F)

abbrev pub decreases-loop-k : goal.decreases-loop-k
decreases-loop-k g l = count_by not l.taken
