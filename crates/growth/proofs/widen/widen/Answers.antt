use Rattle.std.proofs.Common.{◌<◌, map, length, set, ap, ◌∙◌, arith, rules}
use Rattle.std.proofs.lemmas.List.{map-set}
use Rattle.cubes.proofs.Pairs.{read_set}
use Rattle.growth.proofs.widen.widen.Goals as goal

pub returns : goal.returns
returns g c =
    let s = g.P.Part.set in
    let k = c.args.k in
    let inside : k < length c.args.universe.now = omega (arith, c.requires.whole, c.requires.part) in
    map-set s c.args.f.now k _ ∙ ap (set (map s c.args.f.now) k) (search (rules, read_set))
