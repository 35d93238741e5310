use Rattle.std.proofs.Common.{◌≡◌, ℕ, Bool, eqb, map, length, get_or, true, false, sym, ap₂, ◌∙◌, arith}
use Rattle.std.proofs.lemmas.List.{length_push}
use Rattle.std.proofs.lemmas.Iterator.{YieldsList-from_slice, YieldsList-from_zip}
use Rattle.std.proofs.lemmas.Iterator.Consumers.{YieldsList-at, YieldsList-from_enumerate, YieldsList-turn}
use Rattle.parts.specs.Sets.{minus}
use Rattle.cubes.proofs.Pairs.{read_set}
use Rattle.growth.proofs.Weighed.{adding_true, adding_false}
use Rattle.growth.proofs.Lists.{pair_read}
use Rattle.growth.proofs.weigh.add_weights.Goals as goal

pub loop-k-preserved : goal.loop-k-preserved
loop-k-preserved g c =
    let s = g.P.Part.set in
    let cube = c.args.cube.now in
    let f = c.args.f.now in
    let pairs = YieldsList-from_zip {s = c.zip.result} (YieldsList-from_slice cube cc) (YieldsList-from_slice f cc) in
    let numbered = YieldsList-from_enumerate {s = c.into_iter-k-iterator.result} (YieldsList-at (cc) pairs) cc in
    let at = pair_read cube f (length c.loop-k.yielded) c.in-Some.k c.in-Some.x.now c.in-Some.y.now
    (YieldsList-turn numbered c.loop-k.yielded c.loop-k.k-iterator c.loop-k.yielded_by c.next.result c.next.new.self (c.in-Some.k, (c.in-Some.x, c.in-Some.y)) c.in-Some.is c.next.ensures.steps) in
    let t : ℕ → Bool = λ j. eqb (minus (get_or (map s cube) j 0) (get_or (map s f) j 0)) 0 in
    let i = length c.loop-k.yielded in
    let e : t i ≡ false =
    ap₂ (λ a b. eqb (minus a b) 0) (read_set s cube i c.in-Some.x.now at.1 at.3) (read_set s f i c.in-Some.y.now at.2 at.4) ∙ sym c.lies_within.ensures ∙ c.if-lies_within.false in
    rw (length_push c.loop-k.yielded (c.in-Some.k, (c.in-Some.x, c.in-Some.y))) (adding_false i t c.args.weights.now c.loop-k.weights e c.loop-k.invariant)

pub loop-k-preserved-then-lies_within : goal.loop-k-preserved-then-lies_within
loop-k-preserved-then-lies_within g c =
    let s = g.P.Part.set in
    let cube = c.args.cube.now in
    let f = c.args.f.now in
    let pairs = YieldsList-from_zip {s = c.zip.result} (YieldsList-from_slice cube cc) (YieldsList-from_slice f cc) in
    let numbered = YieldsList-from_enumerate {s = c.into_iter-k-iterator.result} (YieldsList-at (cc) pairs) cc in
    let at = pair_read cube f (length c.loop-k.yielded) c.in-Some.k c.in-Some.x.now c.in-Some.y.now
    (YieldsList-turn numbered c.loop-k.yielded c.loop-k.k-iterator c.loop-k.yielded_by c.next.result c.next.new.self (c.in-Some.k, (c.in-Some.x, c.in-Some.y)) c.in-Some.is c.next.ensures.steps) in
    let t : ℕ → Bool = λ j. eqb (minus (get_or (map s cube) j 0) (get_or (map s f) j 0)) 0 in
    let i = length c.loop-k.yielded in
    let e : t i ≡ true =
    ap₂ (λ a b. eqb (minus a b) 0) (read_set s cube i c.in-Some.x.now at.1 at.3) (read_set s f i c.in-Some.y.now at.2 at.4) ∙ sym c.lies_within.ensures ∙ c.if-lies_within.true in
    rw (length_push c.loop-k.yielded (c.in-Some.k, (c.in-Some.x, c.in-Some.y)), at.0)
    (adding_true i t c.args.weights.now c.loop-k.weights e (omega (arith, at.1, c.requires.cube, c.loop-k.auto.weights)) c.loop-k.invariant)
