use Rattle.std.proofs.Common.{rules, tests, map, inl, sym, ◌∙◌, arith}
use Rattle.std.proofs.lemmas.Iterator.Consumers.{YieldsList-from_first}
use Rattle.std.proofs.lemmas.Iterator.Search.{position_from_yields_List}
use Rattle.cubes.specs.Areas.{cubes}
use Rattle.cubes.proofs.Areas.{length-cubes}
use Rattle.engine.proofs.Meetings.{met, met_is}
use Rattle.engine.proofs.foreign.first_met.Goals as goal

pub position-requires-clause-fits : goal.position-requires-clause-fits
position-requires-clause-fits g c =
    let i = c.iter.result in
    inl (omega (arith, length-cubes i.p i.n i.rest.now))

pub returns : goal.returns
returns g c =
    let l = c.args.off.now in
    let s = g.P.Part.set in
    let f = map s c.args.cube.now in
    let list = YieldsList-from_first (λ x. x.now) (λ i. cubes i.p i.n i.rest.now) (cubes l.p l.n l.parts.now) c.iter.ensures.rest in
    position_from_yields_List (met s f) c.position.new.self _ c.position.result c.position.ensures.ran list (λ x b q k. search (rules, tests)) ∙ sym (met_is s f l.p l.n l.parts.now)
