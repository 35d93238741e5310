use Rattle.std.proofs.Common.{◌≡◌, map, length}
use Rattle.table.specs.Filling.{outside_verdict, made_row}
use Rattle.table.proofs.row.check_outside.Given as goal

abbrev pub invariant-loop-part : goal.invariant-loop-part
invariant-loop-part g l =
    let s = g.P.Part.set in
    let most = g.P.Part.MOST in
    let zip = l.part-iterator.iter in
    (outside_verdict (length l.yielded) (made_row most zip.a.rest.now) (map s zip.b.rest.now) ≡ outside_verdict 0 (made_row most l.words) (map s l.universe))
    × (l.part-iterator.count ≡ length l.yielded)
