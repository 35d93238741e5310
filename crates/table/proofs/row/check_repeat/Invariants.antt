use Rattle.std.proofs.Common.{◌≡◌, length}
use Rattle.cubes.specs.Lists.{left}
use Rattle.table.specs.Filling.{repeat_verdict, made_row}
use Rattle.table.specs.Lists.{rows_in}
use Rattle.table.proofs.Beside.{rows_beside}
use Rattle.table.proofs.row.check_repeat.Given as goal

abbrev pub invariant-loop-row : goal.invariant-loop-row
invariant-loop-row g l =
    let s = g.P.Part.set in
    let rest = l.row-iterator.iter in
    let A = made_row g.P.Part.MOST l.words in
    (repeat_verdict l.kind A (length l.yielded) (rows_beside s (left rest.a) rest.b.rest.now) ≡ repeat_verdict l.kind A 0 (rows_in s l.rows))
    × (l.row-iterator.count ≡ length l.yielded)
