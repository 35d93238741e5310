use Rattle.std.proofs.Common.{◌≡◌, ◌+◌, map, length, take, drop}
use lib.Seq.{paste}
use Rattle.table.specs.Filling.{made_row}
use Rattle.table.proofs.row.write_parts.Given as goal

abbrev pub invariant-loop-k : goal.invariant-loop-k
invariant-loop-k g l =
    let s = g.P.Part.set in
    (map s l.table ≡ paste (map s l.initial.table) l.from (made_row g.P.Part.MOST l.words) l.k)
    × (take l.from l.table ≡ take l.from l.initial.table)
    × (drop (l.from + length l.words) l.table ≡ drop (l.from + length l.words) l.initial.table)
