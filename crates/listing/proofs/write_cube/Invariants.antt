use Rattle.std.proofs.Common.{map, take}
use Rattle.listing.specs.Text.{cube_text}
use Rattle.listing.specs.Lines.{Appended}
use Rattle.listing.proofs.write_cube.Given as goal

abbrev pub invariant-loop-i : goal.invariant-loop-i
invariant-loop-i g l =
    let s = g.P.Part.set in
    let n = l.i in
    Appended (cube_text g.P.Part.MOST (take n (map s l.universe)) (take n (map s l.cube))) l.initial.text l.text
