use Rattle.std.proofs.Common.{◌≡◌, ◌≤◌, drop}
use Rattle.cubes.specs.Areas.{cubes}
use Rattle.cubes.specs.Lists.{sets_of}
use Rattle.engine.specs.Foreign.{foreign_verdict}
use Rattle.engine.proofs.foreign.check_foreign.Given as goal

abbrev pub invariant-loop-i : goal.invariant-loop-i
invariant-loop-i g l =
    let t = l.cube-iterator in
    let s = g.P.Part.set in
    let R = sets_of s l.off in
    let C = sets_of s l.solution in
    record {
      few : l.i ≤ l.solution.n;
      left : cubes t.p t.n t.rest.now ≡ drop l.i (cubes l.solution.p l.solution.n l.solution.parts.now);
      same : foreign_verdict l.i R (drop l.i C) ≡ foreign_verdict 0 R C;
    }
