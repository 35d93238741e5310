use Rattle.std.proofs.Common.{◌≡◌, ◌++◌, length, replicate, string_bytes}
use Rattle.sheet.specs.Bench.{sizing}
use Rattle.sheet.specs.Lines.{lines_from}
use Rattle.sheet.proofs.sizing.size_parts.Given as goal

abbrev pub invariant-loop-command : goal.invariant-loop-command
invariant-loop-command g l =
    let p = l.progress in
    let q = l.initial.progress in
    string_bytes p.lines ++ lines_from p.end (sizing g.P.Part.MOST l.sizes.all l.sizes.p) p.rest.now
    ≡ string_bytes q.lines ++ lines_from q.end (sizing g.P.Part.MOST (replicate 16 0) 0) q.rest.now

abbrev pub decreases-loop-command : goal.decreases-loop-command
decreases-loop-command g l = length l.progress.rest.now
