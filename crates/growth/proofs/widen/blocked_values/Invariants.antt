use Rattle.std.proofs.Common.{◌≡◌, map}
use Rattle.moves.specs.Widen.{blocked}
use Rattle.growth.proofs.Lists.{sets_read}
use Rattle.growth.proofs.widen.blocked_values.Given as goal

abbrev pub invariant-loop-r : goal.invariant-loop-r
invariant-loop-r g l = let s = g.P.Part.set in s l.values ≡ blocked l.k (map s l.f) (sets_read s l.yielded)
