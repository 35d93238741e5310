-- The stack of the code, as a stack of pieces.
use Rattle.std.specs.Prelude.{◌≡◌, ℕ, List, map, length}
use Rattle.walk.specs.declared.stack.Stack.{Stack}
use Rattle.walk.specs.Stack.{Task, stack_of}

-- the pieces with their numbers, the one on top first, where s gives the set of a part
abbrev pub tasks : {X : Type 0} → (X → ℕ) → Stack X → List Task
tasks s k = stack_of k.p k.depth (map s k.work.now) k.numbers.now

-- a stack over the same memory, of cubes with as many parts
pub record Kept {X : Type 0} (k l : Stack X) : Type 0 where
  pub p : l.p ≡ k.p
  pub work : length l.work.now ≡ length k.work.now
  pub numbers : length l.numbers.now ≡ length k.numbers.now
