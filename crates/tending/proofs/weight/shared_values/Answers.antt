use Rattle.std.proofs.Common.{rules, ◌≡◌, map, sym, ◌∙◌, arith}
use Rattle.std.specs.List.{sum_by, zip}
use Rattle.std.proofs.lemmas.Iterator.{YieldsList-from_slice, YieldsList-from_zip, YieldsList-from_map}
use Rattle.std.proofs.lemmas.Iterator.Consumers.{YieldsList-at, sum_by_from_yields_List}
use Rattle.tending.proofs.Weights.{both, shared_sum, shared_few}
use Rattle.tending.proofs.weight.shared_values.Goals as goal

total : (g : _) (c : goal.After-sum g) → c.sum.result ≡ sum_by (both g.P.Part.set) (zip c.args.a.now c.args.b.now)
total g c =
    let s = g.P.Part.set in
    let pairs = YieldsList-from_zip {s = c.zip.result} (YieldsList-from_slice c.args.a.now cc) (YieldsList-from_slice c.args.b.now cc) in
    sum_by_from_yields_List (both s) (zip c.args.a.now c.args.b.now) c.map.result c.sum.result c.sum.ensures.ran
    (YieldsList-from_map _ (both s) (YieldsList-at c.map.ensures.source pairs) c.map.ensures.closure (λ x r q k. search rules))

pub returns : goal.returns
returns g c =
    let s = g.P.Part.set in
    let a = c.args.a.now in
    let b = c.args.b.now in
    let few = shared_few s g.P.Part.MOST g.met.P.Part.below g.met.P.Part.range.1 a (map s b) in
    record { value = total g c ∙ sym (shared_sum s a b); most = omega (arith, total g c, shared_sum s a b, few) }
