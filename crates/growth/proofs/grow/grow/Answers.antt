use Rattle.std.proofs.Common.{◌≡◌, ℕ, ◌+◌, ◌-◌, ◌*◌, ◌<◌, ◌≤◌, false, true, not, map, length, get_or, take, drop, set, replicate, Some, None, sym, refl, ap, ap₂, ◌∙◌, subst, arith}
use borrow.Rule.Slice.PartMut.{put_mid}
use Rattle.std.proofs.lemmas.List.{length-map, length-take, length-drop, get_or-take, take-map, take-replicate}
use Rattle.std.proofs.lemmas.Slice.{take-put_mid_below, drop-put_mid}
use Rattle.parts.specs.Models.{word_set}
use Rattle.cubes.specs.Areas.{cube_at, cubes}
use Rattle.cubes.specs.Lists.{sets_of}
use Rattle.cubes.proofs.Areas.{place_below, length-cube_at, map-cube_at, put_part}
use Rattle.moves.specs.Widen.{touches, widened}
use Rattle.moves.specs.Expand.{part_weight, over, grown, growing}
use Rattle.orders.specs.Bests.{Found}
use Rattle.orders.specs.Searches.{lightest}
use Rattle.orders.proofs.Cards.{lightest_alike}
use Rattle.growth.specs.Others.{others}
use Rattle.growth.proofs.Grown.{count-set, growing_on, grows-start, grows-one, grows-end, grown-all}
use Rattle.growth.proofs.grow.grow.Goals as goal

pub over_expanded-over-requires-clause-apart : goal.over_expanded-over-requires-clause-apart
over_expanded-over-requires-clause-apart g c =
    let s = g.P.Part.set in
    let cu = c.new-cubes.result in
    let f : map s c.cube.result.now ≡ cube_at c.args.off.now.p c.args.at (map s c.args.solution.now) =
    let fe : cube_at cu.p c.args.at (map s cu.parts.now) ≡ cube_at c.args.off.now.p c.args.at (map s c.args.solution.now) = cc in
    ap (map s) c.cube.ensures ∙ map-cube_at s cu.p c.args.at cu.parts.now ∙ fe in
    ap (λ F. touches F (sets_of s c.args.off.now)) f ∙ c.requires.apart

pub loop-k-init : goal.loop-k-init
loop-k-init g c =
    let s = g.P.Part.set in
    let p = c.args.off.now.p in
    let at = c.args.at in
    let S = c.args.solution.now in
    let E = map s S in
    let F = cube_at p at E in
    let U = take p (map s c.args.universe.now) in
    let R = sets_of s c.args.off.now in
    let C = others at (cubes p c.args.n E) in
    let w = part_weight (over U F R) F C in
    let n = c.width-p.result in
    let none : take n (replicate 16 false) ≡ replicate p false = ap (λ i. take i (replicate 16 false)) c.width-p.ensures ∙ take-replicate p 16 false c.requires.few in
    let size : at * n + n - at * n ≡ p = omega (arith, c.width-p.ensures) in
    let f : map s (take (at * n + n - at * n) (drop (at * n) S)) ≡ F =
    ap₂ (λ (m i : ℕ). map s (take m (drop (at * i) S))) size c.width-p.ensures ∙ map-cube_at s p at S in
    grows-start p w U R (take n (replicate 16 false)) _ none ∙ ap (λ d. growing p p w U R (replicate p false, d)) f

pub loop-k-preserved : goal.loop-k-preserved
loop-k-preserved g c =
    let s = g.P.Part.set in
    let p = c.args.off.now.p in
    let at = c.args.at in
    let S = c.args.solution.now in
    let E = map s S in
    let F = cube_at p at E in
    let U = take p (map s c.args.universe.now) in
    let R = sets_of s c.args.off.now in
    let C = others at (cubes p c.args.n E) in
    let w = part_weight (over U F R) F C in
    let k = c.in-Some.k in
    let cu = c.new-cubes.result in
    let t = c.loop-k.taken in
    let n = c.width-p.result in
    let ws = take n c.part_weights-weights.result in
    let pe : cu.p ≡ p = cc in
    let fe : cube_at cu.p at (map s cu.parts.now) ≡ F = cc in
    let ce : others at (sets_of s cu) ≡ C = cc in
    let ov : map word_set (take n c.over_expanded-over.result) ≡ over U F R =
    ap (λ i. map word_set (take i c.over_expanded-over.result)) c.width-p.ensures ∙ sym (take-map word_set p c.over_expanded-over.result)
    ∙ c.over_expanded-over.ensures ∙ ap (λ A. over U A R) (ap (map s) c.cube.ensures ∙ map-cube_at s cu.p at cu.parts.now ∙ fe) in
    let agree : (i : ℕ) → i < p → get_or ws i 0 ≡ w i = λ i h.
    let l : i < cu.p = omega (arith, pe) in
    get_or-take n c.part_weights-weights.result i 0 (omega (arith, c.width-p.ensures)) ∙ c.part_weights-weights.ensures i l
    ∙ ap (λ o. part_weight o (cube_at cu.p at (map s cu.parts.now)) (others at (sets_of s cu)) i) ov
    ∙ ap₂ (λ A D. part_weight (over U F R) A D i) fe ce in
    let size : length t ≡ p = c.loop-k.auto.taken ∙ simp length-take (omega (arith, c.width-p.ensures, c.requires.few)) in
    let marked = subst (Found (λ i. not (get_or c.loop-k.taken i false)) (length c.loop-k.taken)) c.in-Some.is c.lightest_part.ensures.first.found in
    let free : get_or c.loop-k.taken k false ≡ false = grind (arith, marked.1) in
    let o : lightest p w t ≡ Some k =
    sym (lightest_alike p (λ i. get_or ws i 0) w t t agree (λ i h. refl)) ∙ ap (λ n. lightest n (λ i. get_or ws i 0) t) (sym size) ∙ sym c.lightest_part.ensures.value ∙ c.in-Some.is in
    let below : k < p = omega (arith, marked.0) in
    let y : map s c.widen.new.f ≡ widened k (get_or U k 0) (map s c.loop-k.f) R =
    c.widen.ensures ∙ ap (λ u. widened k u (map s c.loop-k.f) R) (sym (get_or-take p (map s c.args.universe.now) k 0 below)) in
    ap (growing_on p w U R (set t k true)) y ∙ grows-one p w U R t (map s c.loop-k.f) k o marked.0 free ∙ c.loop-k.invariant

pub loop-k-smaller : goal.loop-k-smaller
loop-k-smaller g c =
    let k = c.in-Some.k in
    let marked = subst (Found (λ i. not (get_or c.loop-k.taken i false)) (length c.loop-k.taken)) c.in-Some.is c.lightest_part.ensures.first.found in
    let free : get_or c.loop-k.taken k false ≡ false = grind (arith, marked.1) in
    omega (arith, count-set c.loop-k.taken k marked.0 free)

pub returns : goal.returns
returns g c =
    let s = g.P.Part.set in
    let p = c.args.off.now.p in
    let at = c.args.at in
    let S = c.args.solution.now in
    let E = map s S in
    let F = cube_at p at E in
    let U = take p (map s c.args.universe.now) in
    let R = sets_of s c.args.off.now in
    let C = others at (cubes p c.args.n E) in
    let w = part_weight (over U F R) F C in
    let n = c.width-p.result in
    let t = c.loop-k.taken in
    let f = c.loop-k.f in
    let le : at * p + p ≤ length S = omega (arith, place_below at c.args.n p c.requires.place, c.requires.room) in
    let lE : at * p + p ≤ length E = rw length-map le in
    let none : c.lightest_part.result ≡ None = c.in_default.is in
    let all = subst (Found (λ i. not (get_or t i false)) (length t)) none c.lightest_part.ensures.first.found in
    let e : (t, map s f) ≡ growing p p w U R (replicate p false, F) = sym (grows-end p w U R t (map s f) all) ∙ c.loop-k.invariant in
    let grew : map s f ≡ grown U R F C = grown-all p U F R C (t, map s f) (length-cube_at p at E lE) e in
    let size : at * n + n - at * n ≡ p = omega (arith, c.width-p.ensures) in
    let q : at * n ≡ at * p = ap (λ i. at * i) c.width-p.ensures in
    record {
      sets = ap (λ i. map s (put_mid (at * i) (at * n + n - at * n) S f)) c.width-p.ensures ∙ put_part s p at (at * n + n - at * n) S f (λ _. grown U R F C) size grew;
      before = take-put_mid_below (at * n) (at * n + n - at * n) S f (at * p) (omega (arith, q)) (omega (arith, q, le));
      behind = drop-put_mid (at * n) (at * n + n - at * n) S f (at * p + p) (omega (arith, q, c.width-p.ensures)) (omega (arith, q, le)) (c.loop-k.auto.f ∙ simp (length-take, length-drop) (omega (arith, q, le, c.width-p.ensures)));
    }
