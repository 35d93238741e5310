use Rattle.std.proofs.Common.{◌≡◌, get_or, ap, ◌∙◌, add-one, arith, rules}
use Rattle.table.specs.Cards.{blank}
use Rattle.orders.specs.Rules.{directed}
use Rattle.orders.specs.Bests.{against}
use Rattle.orders.specs.Searches.{precedes}
use Rattle.orders.proofs.search.first_where.Goals as goal
use Rattle.orders.proofs.search.first_where.Goals.{then-test+in-None, then-test+in-Some+then-comes_before, then-test+in-Some+else-comes_before, else-test}

pub loop-i-preserved : goal.loop-i-preserved
loop-i-preserved g c =
    let cs = c.args.cards.now in
    let i = c.loop-i.i in
    let B = directed c.args.along (g.O.Order.before c.args.order.now) in (
      λ b e. elim c.if-test.branch [
        | then-test+in-None w ↦ let q : i ≡ b = cc in omega arith
        | then-test+in-Some+then-comes_before w ↦ let q : i ≡ b = cc in omega arith
        | then-test+in-Some+else-comes_before w ↦ let l = c.loop-i.invariant.0 b (cc) in omega arith
        | else-test w ↦ let l = c.loop-i.invariant.0 b (cc) in omega arith
      ],
      λ passes h.
          let next = against (passes (get_or cs i blank)) (λ i j. precedes B (get_or cs i blank) (get_or cs j blank)) i in
          let t : c.test.result ≡ passes (get_or cs i blank) = h (get_or cs i blank) c.test.result (search rules) in
          let e : c.if-test.found ≡ next c.loop-i.found = elim c.if-test.branch [
            | then-test+in-None w ↦ search rules
            | then-test+in-Some+then-comes_before w ↦ search rules
            | then-test+in-Some+else-comes_before w ↦ search rules
            | else-test w ↦ search rules
          ] in
          rw add-one (e ∙ ap next (c.loop-i.invariant.1 passes h)),
    )
