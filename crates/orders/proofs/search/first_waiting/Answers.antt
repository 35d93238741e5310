use Rattle.std.proofs.Common.{length, sym, subst, rules}
use Rattle.orders.specs.Rules.{directed}
use Rattle.orders.specs.Searches.{waits, IsFirstOf}
use Rattle.orders.proofs.Cards.{first_of_lem}
use Rattle.orders.proofs.Rules.{directed_ordered}
use Rattle.orders.proofs.search.first_waiting.Goals as goal

pub returns : goal.returns
returns g c =
    let cs = c.args.cards.now in
    let B = directed c.args.along (g.O.Order.before c.args.order.now) in
    let value = c.first_where.ensures waits (λ x b h. search rules) in
    record {
      value = value;
      first = subst (IsFirstOf waits B cs (length cs)) (sym value) (first_of_lem waits B (directed_ordered c.args.along _ (g.met.O.Order.ordered _)) cs (length cs));
    }
