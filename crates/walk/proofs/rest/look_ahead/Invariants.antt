use Rattle.std.proofs.Common.{◌≡◌, ◌+◌, map, length, drop}
use Rattle.cubes.specs.Lists.{sets_of, left}
use Rattle.walk.specs.Look.{look_of}
use Rattle.walk.proofs.Looks.{onto}
use Rattle.walk.proofs.rest.look_ahead.Given as goal

abbrev pub invariant-loop-j : goal.invariant-loop-j
invariant-loop-j g l =
    let s = g.P.Part.set in
    let c = map s l.c in
    (onto l.first (look_of c (l.from + l.j) (map (map s) (left l.row-iterator))) ≡ look_of c l.from (drop l.from (sets_of s l.list)))
    × (l.from + l.j + length (left l.row-iterator) ≡ l.list.n)
