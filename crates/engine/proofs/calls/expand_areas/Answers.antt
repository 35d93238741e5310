use Rattle.std.proofs.Common.{rules, ◌≡◌, ℕ, ◌-◌, ◌*◌, ◌≤◌, ◌++◌, map, length, take, replicate, Ok, sym, refl, ap, ◌∙◌, arith}
use Rattle.std.proofs.lemmas.List.{length-map, length-replicate}
use Rattle.cubes.specs.Areas.{cubes, flat}
use Rattle.moves.specs.Calls.{expand}
use Rattle.table.specs.Cards.{blank}
use Rattle.engine.specs.Foreign.{foreign_verdict}
use Rattle.engine.proofs.Meetings.{none_foreign}
use Rattle.tending.proofs.Settled.{settled_whole}
use Rattle.engine.proofs.Settling.{overlay-all, settled_list, moved_settled}
use Rattle.engine.proofs.calls.expand_areas.Goals as goal

pub returns : goal.returns
returns g c =
    let s = g.P.Part.set in
    let p = c.args.p in
    let A = c.args.cubes.now in
    let K = c.args.cards.now in
    let R = cubes p c.args.offs (map s c.args.off.now) in
    let C = cubes p (length K) (map s A) in
    let E = expand (g.O.Order.before c.args.order.now) (take p (map s c.args.universe.now)) R C in
    let V = c.expand_cubes.new.solution in
    let W = c.settle.new.self in
    let made = c.new-solution.ensures in
    let o = c.new-off.ensures in
    let a = c.expand_cubes.ensures.areas in
    let q : V.p ≡ p = a.p ∙ made.p in
    let m : length V.cards.now ≡ length K = a.length ∙ ap length made.cards in
    let all : V.count ≡ length K = a.count ∙ made.count in
    let few : V.n ≤ length K = omega (arith, V.within, all) in
    let exact : length V.cubes.now ≡ length K * p = a.parts ∙ ap length made.cubes ∙ c.requires.exact in
    let list : cubes p V.n (map s V.cubes.now) ≡ E =
    ap (λ r. cubes r V.n (map s V.cubes.now)) (sym q) ∙ c.expand_cubes.ensures.list ∙ rw (o.p, o.n, o.parts, made.p, made.n, made.cubes) in
    let settling : map s W.cubes.now ≡ flat (cubes p V.n (map s V.cubes.now)) ++ replicate ((length K - V.n) * p) 0 = c.settle.ensures.cubes ∙ rw (q, all) (settled_whole s p V.n (length K) V.cubes.now few (omega (arith, exact)) exact) in
    let none : W.cards.now ≡ replicate (length K) blank = c.settle.ensures.cards ∙ rw all (overlay-all (replicate (length K) blank) V.cards.now (length-replicate (length K) blank ∙ sym m)) in
    let l = c.left.ensures in
    let passed : Ok tt ≡ foreign_verdict 0 R C = c.in_ok-check_foreign.ensures.value ∙ rw (o.parts, o.p, o.n, l.parts, l.p, l.n, made.cubes, made.p, made.n) in
    let long : length (map s A) ≡ length K * p = omega (arith, length-map A s, c.requires.exact) in
    record {
      leaves = rw c.settle.ensures.n (moved_settled s p V.n (length K) E V.cubes.now W.cubes.now _ few exact list settling (search rules) (foreign_verdict 0 R C) (map s A) K W.cards.now _ (sym passed) long refl none (search rules));
      stays = λ z. absurd (let z : ◌≡◌ {A = ℕ} 0 1 = cc in omega arith);
      list = rw c.settle.ensures.n (settled_list s p V.n (length K) E V.cubes.now W.cubes.now _ few exact list settling (search rules));
      apart = none_foreign 0 R C (sym passed);
      fewer = omega (arith, few, c.settle.ensures.n);
    }
