use Rattle.std.proofs.Common.{◌≡◌, map, take}
use Rattle.parts.specs.Models.{word_set}
use Rattle.moves.specs.Expand.{over}
use Rattle.growth.proofs.Lists.{sets_read}
use Rattle.growth.proofs.over.write_over_expanded.Given as goal

abbrev pub invariant-loop-k : goal.invariant-loop-k
invariant-loop-k g l = take l.k (map word_set l.over) ≡ take l.k (map g.P.Part.set l.universe)

abbrev pub invariant-loop-r : goal.invariant-loop-r
invariant-loop-r g l = let s = g.P.Part.set in map word_set l.over ≡ over (take l.off.p (map s l.universe)) (map s l.f) (sets_read s l.yielded)
