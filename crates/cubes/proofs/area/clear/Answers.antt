use Rattle.std.proofs.Common.{◌≡◌, ◌^◌, ◌<◌, ◌≤◌, map, length, replicate, sym, ap, ◌∙◌, arith}
use native.Mathlib.Nat.{zero-mod}
use Rattle.std.proofs.lemmas.List.{take_more_set, map-set, length-map, replicate_more, take_all}
use Rattle.cubes.proofs.area.clear.Goals as goal

pub loop-part-preserved : goal.loop-part-preserved
loop-part-preserved g c =
    let s = g.P.Part.set in
    let i = c.loop-part.part-index in
    let xs = map s c.loop-part.area in
    let h : i < length xs = rw length-map (omega arith) in
    let none : s c.make-none.result ≡ 0 = c.make-none.ensures.value ∙ zero-mod (2 ^ g.P.Part.MOST) in
    rw (map-set, none, take_more_set xs i 0 h, c.loop-part.invariant) (replicate_more i 0)

pub returns : goal.returns
returns g c =
    let s = g.P.Part.set in
    let i = c.loop-part.part-index in
    let xs = map s c.loop-part.area in
    let h : length xs ≤ i = rw length-map (omega arith) in
    let e : i ≡ length c.args.area.now = omega arith in
    sym (take_all i xs h) ∙ c.loop-part.invariant ∙ ap (λ n. replicate n 0) e
