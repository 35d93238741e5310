use Rattle.std.proofs.Common.{◌≡◌, length}
use Rattle.std.specs.List.{AllByRecursion}
use Rattle.cubes.specs.Lists.{left}
use Rattle.table.specs.Cards.{on_cubes}
use Rattle.table.proofs.OnRows.{Copying}
use Rattle.table.proofs.open.copy_on_rows.Given as goal

abbrev pub invariant-loop-cube : goal.invariant-loop-cube
invariant-loop-cube g l =
    let rows = l.rows in
    let rest = l.cube-iterator in
    Copying rows.cubes.p (on_cubes rows.cubes.p rows.cubes.n rows.cubes.parts.now rows.cards.now) l.initial.solution l.initial.notes (left rest.a) rest.b.rest.now l.on l.solution l.notes
    × AllByRecursion (λ c. length c ≡ rows.cubes.p) (left rest.a)
