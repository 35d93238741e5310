use Rattle.std.proofs.Common.{◌≡◌, ◌+◌, ◌<◌, ◌≤◌, ◌++◌, map}
use Rattle.cubes.specs.Areas.{cube_at}
use Rattle.walk.specs.Stack.{numbered}
use Rattle.walk.specs.Tasks.{tasks, Kept}
use Rattle.walk.proofs.Pieces.{pieces_from}
use Rattle.walk.proofs.stack.Stack.cut.Given as goal

abbrev pub invariant-loop-k : goal.invariant-loop-k
invariant-loop-k g l =
    let s = g.P.Part.set in
    let start = l.initial.self in
    let a = cube_at start.p start.depth (map s start.work.now) in
    (tasks s l.self ≡ numbered l.next (pieces_from l.k a (map s l.row)) ++ tasks s start)
    × (0 < l.k → cube_at start.p l.self.depth (map s l.self.work.now) ≡ a)
    × (l.self.depth + l.k ≤ start.depth + start.p)
    × Kept start l.self
