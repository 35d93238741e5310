use Rattle.listing.specs.Text.{marks}
use Rattle.listing.specs.Lines.{Appended}
use Rattle.listing.proofs.Line.marks.Given as goal

abbrev pub invariant-loop-v : goal.invariant-loop-v
invariant-loop-v g l =
    let s = g.P.Part.set in
    Appended (marks l.v (s l.whole) (s l.part)) l.initial.self l.self
