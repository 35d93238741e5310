use Rattle.std.proofs.Common.{◌≡◌, ℕ, ◌<◌, get_or, Some}
use Rattle.orders.specs.Searches.{lightest}
use Rattle.orders.proofs.search.lightest_part.Given as goal

abbrev pub invariant-loop-k : goal.invariant-loop-k
invariant-loop-k l = ((b : ℕ) → l.found ≡ Some b → b < l.k) × (l.found ≡ lightest l.k (λ k. get_or l.weights k 0) l.fn.taken)
