use Rattle.std.proofs.Common.{rules, ◌≡◌, ◌^◌, ◌<◌, map, sym, ◌∙◌, arith}
use Rattle.std.specs.List.{sum_by}
use Rattle.std.proofs.lemmas.Iterator.{YieldsList-from_map}
use Rattle.std.proofs.lemmas.Iterator.Consumers.{YieldsList-at, YieldsList-from_first, sum_by_from_yields_List, fits_by_from_yields_list}
use Rattle.cubes.specs.Areas.{cubes}
use Rattle.tending.proofs.Weights.{beside, weighed_cubes, weighed_most}
use Rattle.tending.proofs.weight.weigh.Goals as goal

pub sum-requires-clause-fits : goal.sum-requires-clause-fits
sum-requires-clause-fits g c =
    let l = c.args.cubes.now in
    let s = g.P.Part.set in
    let a = c.args.cube.now in
    let D = cubes l.p l.n l.parts.now in
    let most = weighed_most s g.P.Part.MOST g.met.P.Part.below g.met.P.Part.range.1 a c.requires.few l.p l.n (map s l.parts.now) in
    let h = c.requires.most in
    let fits : sum_by (beside s a) D < 2 ^ 64 = omega (arith, most, weighed_cubes s a l.p l.n l.parts.now) in
    let list = YieldsList-from_first (λ x. x.now) (λ i. cubes i.p i.n i.rest.now) D c.iter.ensures.rest in
    fits_by_from_yields_list (beside s a) D c.map.result (2 ^ 64) (YieldsList-from_map _ (beside s a) (YieldsList-at c.map.ensures.source list) c.map.ensures.closure (λ x r q k. search rules)) fits

total : (g : _) (c : goal.After-sum g) → let l = c.args.cubes.now in c.sum.result ≡ sum_by (beside g.P.Part.set c.args.cube.now) (cubes l.p l.n l.parts.now)
total g c =
    let l = c.args.cubes.now in
    let s = g.P.Part.set in
    let a = c.args.cube.now in
    let D = cubes l.p l.n l.parts.now in
    let list = YieldsList-from_first (λ x. x.now) (λ i. cubes i.p i.n i.rest.now) D c.iter.ensures.rest in
    sum_by_from_yields_List (beside s a) D c.map.result c.sum.result c.sum.ensures.ran (YieldsList-from_map _ (beside s a) (YieldsList-at c.map.ensures.source list) c.map.ensures.closure (λ x r q k. search rules))

pub returns : goal.returns
returns g c =
    let l = c.args.cubes.now in
    let s = g.P.Part.set in
    let a = c.args.cube.now in
    let most = weighed_most s g.P.Part.MOST g.met.P.Part.below g.met.P.Part.range.1 a c.requires.few l.p l.n (map s l.parts.now) in
    let sum = weighed_cubes s a l.p l.n l.parts.now in
    record { value = total g c ∙ sym sum; most = omega (arith, total g c, sum, most) }
