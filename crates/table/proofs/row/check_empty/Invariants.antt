use Rattle.std.proofs.Common.{◌≡◌, drop}
use Rattle.table.specs.Filling.{empty_verdict, made_row}
use Rattle.table.proofs.row.check_empty.Given as goal

abbrev pub invariant-loop-part : goal.invariant-loop-part
invariant-loop-part g l = let A = made_row g.P.Part.MOST l.words in empty_verdict l.part (drop l.part A) ≡ empty_verdict 0 A
