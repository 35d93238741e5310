use Rattle.std.proofs.Common.{◌≡◌, ◌<◌, ◌++◌, map, length, get_or, drop, sym, ap, ◌∙◌, arith}
use Rattle.std.proofs.lemmas.List.{length-map, length-take, get_or-take, map-set, drop-set-lt}
use Rattle.parts.specs.Sets.{whole}
use Rattle.table.specs.Filling.{universe_of}
use Rattle.table.proofs.Verdicts.{shape_few, shape_range, universe_more}
use Rattle.table.proofs.begin.write_universe.Goals as goal

pub whole-requires : goal.whole-requires
whole-requires g c =
    let h : c.loop-k.k < c.args.p = omega (arith, length-take c.args.p c.args.sizes.now) in
    rw (get_or-take c.args.p c.args.sizes.now c.loop-k.k 0 h) (shape_range g.P.Part.MOST c.args.p c.loop-k.k c.args.sizes.now (omega arith) c.requires.shape h)

pub loop-k-preserved : goal.loop-k-preserved
loop-k-preserved g c =
    let s = g.P.Part.set in
    let k = c.loop-k.k in
    let few = shape_few g.P.Part.MOST c.args.p c.args.sizes.now c.requires.shape in
    let h : k < c.args.p = omega (arith, length-take c.args.p c.args.sizes.now) in
    let l : k < length c.args.sizes.now = omega arith in
    let v : k < length (map s c.args.universe.now) = rw length-map (omega arith) in
    let made : s c.whole.result ≡ whole (get_or c.args.sizes.now k 0) = c.whole.ensures ∙ ap whole (get_or-take c.args.p c.args.sizes.now k 0 h) in (
      map-set s c.loop-k.universe k c.whole.result
          ∙ universe_more k c.args.sizes.now (map s c.loop-k.universe) (map s c.args.universe.now) (s c.whole.result) l v c.loop-k.invariant.0 made,
      drop-set-lt c.args.p c.loop-k.universe k c.whole.result h ∙ c.loop-k.invariant.1,
    )

pub returns : goal.returns
returns g c =
    let s = g.P.Part.set in
    let p = c.args.p in
    let V = map s c.args.universe.now in
    let few = shape_few g.P.Part.MOST p c.args.sizes.now c.requires.shape in
    let e : c.loop-k.k ≡ p = omega (arith, length-take p c.args.sizes.now) in
    let n : length (universe_of p c.args.sizes.now) ≡ p = simp (length-map, length-take) (omega arith) in
    record {
      sets = c.loop-k.invariant.0 ∙ ap (λ k. universe_of k c.args.sizes.now ++ drop k V) e ∙ ap (λ k. universe_of p c.args.sizes.now ++ drop k V) (sym n);
      stays = c.loop-k.invariant.1;
    }
