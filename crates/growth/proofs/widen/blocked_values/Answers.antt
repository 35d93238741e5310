use Rattle.std.proofs.Common.{◌≡◌, true, false, get_or, map, sym, ap, ◌∙◌, arith, rules}
use lib.Bits.{or_zero_r}
use Rattle.cubes.proofs.Pairs.{read_set}
use Rattle.moves.specs.Widen.{blocked, beside}
use Rattle.growth.proofs.Blocked.{blocked_push}
use Rattle.growth.proofs.Lists.{width_read, all_read, sets_read, sets_read-push}
use Rattle.growth.proofs.widen.blocked_values.Goals as goal

pub meets_beside-requires : goal.meets_beside-requires
meets_beside-requires g c = c.requires.size ∙ sym (width_read c.args.off.now c.into_iter-r-iterator.result (cc) c.loop-r.yielded c.loop-r.r-iterator c.loop-r.yielded_by c.next.result c.next.new.self c.in-Some.r c.in-Some.is c.next.ensures.steps)

pub bounds-r-k : goal.bounds-r-k
bounds-r-k g c = omega (arith, width_read c.args.off.now c.into_iter-r-iterator.result (cc) c.loop-r.yielded c.loop-r.r-iterator c.loop-r.yielded_by c.next.result c.next.new.self c.in-Some.r c.in-Some.is c.next.ensures.steps)

pub offset_bounds-r-k : goal.offset_bounds-r-k
offset_bounds-r-k g c = omega (arith, width_read c.args.off.now c.into_iter-r-iterator.result (cc) c.loop-r.yielded c.loop-r.r-iterator c.loop-r.yielded_by c.next.result c.next.new.self c.in-Some.r c.in-Some.is c.next.ensures.steps)

pub loop-r-preserved-then-meets_beside : goal.loop-r-preserved-then-meets_beside
loop-r-preserved-then-meets_beside g c =
    let s = g.P.Part.set in
    let k = c.args.k in
    let r = c.in-Some.r.now in
    let width = width_read c.args.off.now c.into_iter-r-iterator.result (cc) c.loop-r.yielded c.loop-r.r-iterator c.loop-r.yielded_by c.next.result c.next.new.self c.in-Some.r c.in-Some.is c.next.ensures.steps in
    let x : get_or (map s r) k 0 ≡ s c.index-r-k.result = read_set s r k c.index-r-k.result (omega (arith, width)) c.index-r-k.is in
    let b : beside k (map s c.args.f.now) (map s r) ≡ true = sym c.meets_beside.ensures ∙ c.if-meets_beside.true in
    rw (sets_read-push s c.loop-r.yielded c.in-Some.r, blocked_push k (map s c.args.f.now) (sets_read s c.loop-r.yielded) (map s r), b, x, ← c.loop-r.invariant) (search rules)

pub loop-r-preserved : goal.loop-r-preserved
loop-r-preserved g c =
    let s = g.P.Part.set in
    let k = c.args.k in
    let r = c.in-Some.r.now in
    let b : beside k (map s c.args.f.now) (map s r) ≡ false = sym c.meets_beside.ensures ∙ c.if-meets_beside.false in
    rw (sets_read-push s c.loop-r.yielded c.in-Some.r, blocked_push k (map s c.args.f.now) (sets_read s c.loop-r.yielded) (map s r), b, or_zero_r (blocked k (map s c.args.f.now) (sets_read s c.loop-r.yielded))) c.loop-r.invariant

pub returns : goal.returns
returns g c =
    let s = g.P.Part.set in
    let h = all_read c.args.off.now c.into_iter-r-iterator.result (cc) s c.loop-r.yielded c.loop-r.r-iterator c.loop-r.yielded_by c.next.result c.next.new.self c.in-None.is c.next.ensures.steps in
    c.loop-r.invariant ∙ ap (blocked c.args.k (map s c.args.f.now)) h
