use Rattle.std.proofs.Common.{◌≡◌, map, length}
use Rattle.walk.specs.Stack.{stack_of, weight}
use Rattle.walk.proofs.Walks.{Walked}
use Rattle.walk.proofs.rest.rest_of.Given as goal

abbrev pub invariant-loop-piece : goal.invariant-loop-piece
invariant-loop-piece g l =
    Walked g.P.Part.set l.list.p l.list.n l.most l.list.parts.now l.initial.stack.work.now l.initial.out l.stack.work.now l.stack.numbers.now l.out l.stack.depth l.count
    × (l.stack.p ≡ l.list.p)
    × (length l.stack.numbers.now ≡ length l.initial.stack.numbers.now)

abbrev pub decreases-loop-piece : goal.decreases-loop-piece
decreases-loop-piece g l = weight l.list.p l.list.n (stack_of l.list.p l.stack.depth (map g.P.Part.set l.stack.work.now) l.stack.numbers.now)
