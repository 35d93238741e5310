use Rattle.std.proofs.Common.{◌≤◌, map, length, ap, ◌∙◌, arith}
use Rattle.orders.specs.Searches.{waits, first_of}
use Rattle.orders.proofs.Cards.{first_of-front}
use Rattle.engine.proofs.Turns.{first_card}
use Rattle.engine.proofs.expand.first_left.Goals as goal

pub returns : goal.returns
returns g c =
    let S = c.args.solution.now in
    let B = g.O.Order.before c.args.order.now in
    let beside : S.n ≤ length S.cards.now = omega (arith, S.within, S.beside) in
    c.first_waiting.ensures.value ∙ ap (λ cs. first_of waits B cs (length cs)) c.cards_left.ensures ∙ first_of-front waits B S.cards.now S.n beside
    ∙ first_card S.p S.n (map g.P.Part.set S.cubes.now) S.cards.now B
