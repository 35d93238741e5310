use Rattle.std.proofs.Common.{map, ap, ◌∙◌, ap₂}
use Rattle.cubes.specs.Cubes.{covers}
use Rattle.cubes.proofs.Areas.{map-cube_at}
use Rattle.tending.proofs.solution.Solution.covers.Goals as goal

pub returns : goal.returns
returns g c =
    let s = g.P.Part.set in
    let left = c.left-cubes.ensures in
    let S = c.args.self.now in
    c.covers.ensures
    ∙ ap₂ covers
    (ap (map s) (c.cube.ensures ∙ rw (left.parts, left.p)) ∙ map-cube_at s S.p c.args.i S.cubes.now)
    (ap (map s) (c.cube-2.ensures ∙ rw (left.parts, left.p)) ∙ map-cube_at s S.p c.args.j S.cubes.now)
