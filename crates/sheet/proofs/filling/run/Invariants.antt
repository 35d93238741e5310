use Rattle.std.proofs.Common.{◌≡◌, ◌++◌, length, string_bytes}
use Rattle.sheet.specs.Views.{memory, state}
use Rattle.sheet.proofs.Steps.{lines_of_command}
use Rattle.sheet.proofs.filling.run.Given as goal

abbrev pub invariant-loop-next : goal.invariant-loop-next
invariant-loop-next g l =
    let p = l.progress in
    let q = l.initial.progress in
    string_bytes p.lines ++ lines_of_command p.end (state g.P.Part.MOST l.stage (memory g.P.Part.set l.areas)) p.at p.rest.now l.command
    ≡ string_bytes q.lines ++ lines_of_command q.end (state g.P.Part.MOST l.initial.stage (memory g.P.Part.set l.initial.areas)) q.at q.rest.now l.initial.command

abbrev pub decreases-loop-next : goal.decreases-loop-next
decreases-loop-next g l = length l.progress.rest.now
