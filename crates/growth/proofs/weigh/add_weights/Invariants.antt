use Rattle.std.proofs.Common.{eqb, map, length, get_or}
use Rattle.parts.specs.Sets.{minus}
use Rattle.growth.proofs.Weighed.{Adding}
use Rattle.growth.proofs.weigh.add_weights.Given as goal

abbrev pub invariant-loop-k : goal.invariant-loop-k
invariant-loop-k g l =
    let s = g.P.Part.set in
    Adding (length l.yielded) (λ j. eqb (minus (get_or (map s l.cube) j 0) (get_or (map s l.f) j 0)) 0) l.initial.weights l.weights
