use Rattle.std.proofs.Common.{length, sym, subst, rules}
use Rattle.orders.specs.Rules.{directed}
use Rattle.orders.specs.Searches.{untried, IsFirstOf}
use Rattle.orders.proofs.Cards.{first_of_lem}
use Rattle.orders.proofs.Rules.{directed_ordered}
use Rattle.orders.proofs.search.first_untried.Goals as goal

pub returns : goal.returns
returns g c =
    let cs = c.args.cards.now in
    let B = directed c.args.along (g.O.Order.before c.args.order.now) in
    let value = c.first_where.ensures untried (λ x b h. search rules) in
    record {
      value = value;
      first = subst (IsFirstOf untried B cs (length cs)) (sym value) (first_of_lem untried B (directed_ordered c.args.along _ (g.met.O.Order.ordered _)) cs (length cs));
    }
