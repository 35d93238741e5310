use Rattle.std.proofs.Common.{◌-◌, ◌*◌, length, drop, sym, ap, ◌∙◌, arith}
use Rattle.std.proofs.lemmas.List.{take_all, length-drop}
use Rattle.cubes.specs.Areas.{cubes}
use Rattle.cubes.proofs.Areas.{drop-cubes}
use Rattle.cubes.proofs.list.Cubes.after.Goals as goal

pub returns-clause-cubes : goal.returns-clause-cubes
returns-clause-cubes g c =
    let l = c.args.self.now in
    let at = c.args.i * l.p in
    let long = length-drop at l.parts.now in
    ap (cubes l.p (l.n - c.args.i)) (take_all (length l.parts.now - at) (drop at l.parts.now) (omega arith)) ∙ sym (drop-cubes l.p l.n c.args.i l.parts.now c.requires)
