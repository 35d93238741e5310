use Rattle.std.proofs.Common.{◌≡◌, ◌<◌, map, ap, ◌∙◌, arith}
use Rattle.std.proofs.lemmas.List.{get_or-take, length-take}
use Rattle.walk.proofs.Pieces.{mixed, mixed_more, mixed-all}
use Rattle.walk.proofs.stack.make_piece.Goals as goal

pub loop-j-preserved : goal.loop-j-preserved
loop-j-preserved g c =
    let b = c.args.b.now in
    let j = c.loop-j.j in
    let few = length-take c.args.k b in
    let h : j < c.args.k = omega arith in
    let read = c.part-item.is ∙ get_or-take c.args.k b j c.part-item.result h in
    mixed_more g.P.Part.set c.loop-j.a c.args.a.now b j _ _ _ c.loop-j.auto.a c.requires.b_len (omega arith) c.index-a-j.is read c.loop-j.invariant c.common.ensures.value

pub returns : goal.returns
returns g c =
    let s = g.P.Part.set in
    let few = length-take c.args.k c.args.b.now in
    let e : c.loop-j.j ≡ c.args.k = omega arith in
    let inv = c.loop-j.invariant ∙ ap (λ j. mixed j (map s c.args.a.now) (map s c.args.b.now)) e in
    mixed-all s c.loop-j.a c.args.a.now c.args.b.now c.args.k _ _ _ c.loop-j.auto.a c.requires.b_len c.requires.k_in_bounds c.index-a-k.is c.index-b-k.is inv c.outside.ensures.value
