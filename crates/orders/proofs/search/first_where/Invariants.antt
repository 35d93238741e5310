use Rattle.std.proofs.Common.{◌≡◌, ℕ, ◌<◌, Bool, Some}
use Rattle.std.specs.Fn.{FnReturnsAt}
use Rattle.table.specs.declared.card.Card.{Card}
use Rattle.orders.specs.Rules.{directed}
use Rattle.orders.specs.Searches.{first_of}
use Rattle.orders.proofs.search.first_where.Given as goal

abbrev pub invariant-loop-i : goal.invariant-loop-i
invariant-loop-i g l =
    ((b : ℕ) → l.found ≡ Some b → b < l.i)
    × ((passes : Card → Bool) → ((c : Card) (b : Bool) → FnReturnsAt g.F.Fn l.test c b → b ≡ passes c)
    → l.found ≡ first_of passes (directed l.along (g.O.Order.before l.order)) l.cards l.i)
