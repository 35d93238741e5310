use Rattle.std.proofs.Common.{◌≡◌, map, length, drop, ap, ◌∙◌, add-zero, arith}
use Rattle.std.proofs.lemmas.List.{length-drop}
use Rattle.cubes.specs.Areas.{cubes}
use Rattle.cubes.specs.Lists.{left}
use Rattle.cubes.proofs.Areas.{length-cubes, map-drop-cubes}
use Rattle.walk.specs.Look.{look_of}
use Rattle.walk.proofs.rest.look_ahead.Goals as goal

pub loop-j-init : goal.loop-j-init
loop-j-init g c =
    let s = g.P.Part.set in
    let i = c.args.from in
    let l = c.args.list.now in
    let rows = cubes l.p l.n l.parts.now in
    let e : left c.iter-row-items.result ≡ drop i rows = c.iter-row-items.ensures.rest ∙ c.after.ensures.cubes in
    let a = map s c.args.c.now in (
      rw add-zero (ap (λ D. look_of a i (map (map s) D)) e ∙ ap (look_of a i) (map-drop-cubes s l.p l.n i l.parts.now)),
      omega (arith, ap length e, length-drop i rows, length-cubes l.p l.n l.parts.now, c.requires),
    )

pub overflow_add-first : goal.overflow_add-first
overflow_add-first g c = omega (arith, c.loop-j.invariant.1, c.args.list.now.counted)
