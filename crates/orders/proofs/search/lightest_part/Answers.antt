use Rattle.std.proofs.Common.{◌≡◌, ℕ, length, get_or, sym, ap, ◌∙◌, subst, arith}
use Rattle.orders.specs.Searches.{lightest, IsLightest}
use Rattle.orders.proofs.Cards.{lightest_first}
use Rattle.orders.proofs.search.lightest_part.Goals as goal

pub returns-clause-first : goal.returns-clause-first
returns-clause-first c =
    let w : ℕ → ℕ = λ k. get_or c.args.weights.now k 0 in
    let t = c.args.taken.now in
    let all : c.loop-k.k ≡ length t = omega arith in
    let value : c.loop-k.found ≡ lightest (length t) w t = c.loop-k.invariant.1 ∙ ap (λ n. lightest n w t) all in
    subst (IsLightest (length t) w t) (sym value) (lightest_first (length t) w t)
