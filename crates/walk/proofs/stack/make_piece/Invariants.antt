use Rattle.std.proofs.Common.{◌≡◌, map}
use Rattle.walk.proofs.Pieces.{mixed}
use Rattle.walk.proofs.stack.make_piece.Given as goal

abbrev pub invariant-loop-j : goal.invariant-loop-j
invariant-loop-j g l = let s = g.P.Part.set in map s l.a ≡ mixed l.j (map s l.initial.a) (map s l.b)
