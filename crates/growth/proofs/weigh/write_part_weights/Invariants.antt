use Rattle.std.proofs.Common.{◌≡◌, ℕ, ◌<◌, ◌≤◌, map, get_or, drop}
use Rattle.parts.specs.Models.{word_set}
use Rattle.cubes.specs.Areas.{cubes, cube_at}
use Rattle.moves.specs.Expand.{part_weight}
use Rattle.growth.specs.Others.{others}
use Rattle.growth.proofs.weigh.write_part_weights.Given as goal

abbrev pub invariant-loop-i : goal.invariant-loop-i
invariant-loop-i g l =
    let t = l.cube-iterator in
    let X = map g.P.Part.set l.solution.parts.now in
    let p = l.solution.p in
    record {
      few : l.i ≤ l.solution.n;
      left : cubes t.p t.n t.rest.now ≡ drop l.i (cubes p l.solution.n l.solution.parts.now);
      weighed : (k : ℕ) → k < p → get_or l.weights k 0 ≡ part_weight (map word_set l.over) (cube_at p l.at X) (others l.at (cubes p l.i X)) k;
    }
