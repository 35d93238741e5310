use Rattle.std.proofs.Common.{◌^◌, ◌∙◌, ap, ◌%◌, mod-eq_of_lt, pow_mono, arith}
use native.Mathlib.Nat.{one-le-pow}
use Rattle.table.proofs.begin.whole.Goals as goal

pub returns : goal.returns
returns g c =
    c.make.ensures.value ∙ ap (λ w. w % 2 ^ g.P.Part.MOST) c.whole.ensures
    ∙ mod-eq_of_lt (omega (arith, pow_mono c.requires.1, one-le-pow c.args.size 2 (omega arith)))
