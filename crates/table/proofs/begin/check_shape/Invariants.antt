use Rattle.std.proofs.Common.{◌≡◌, take, drop}
use Rattle.table.specs.Filling.{sizes_verdict}
use Rattle.table.proofs.begin.check_shape.Given as goal

abbrev pub invariant-loop-k : goal.invariant-loop-k
invariant-loop-k g l = sizes_verdict g.P.Part.MOST l.k (drop l.k (take l.p l.sizes)) ≡ sizes_verdict g.P.Part.MOST 0 (take l.p l.sizes)
