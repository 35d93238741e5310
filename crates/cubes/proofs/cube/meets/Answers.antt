use Rattle.std.proofs.Common.{◌≡◌, ℕ, ◌<◌, Bool, true, false, [], ◌∷◌, map, sym, refl, ◌∙◌, arith}
use Rattle.std.proofs.lemmas.List.{length-take, get_or-take}
use Rattle.std.specs.Prelude.{bit_and}
use Rattle.parts.specs.Sets.{some}
use Rattle.cubes.specs.Cubes.{meets}
use Rattle.cubes.proofs.Pairs.{pair_true, pair_false, pair_none}
use Rattle.cubes.proofs.cube.meets.Goals as goal

abbrev test : ℕ → ℕ → Bool
test a b = some (bit_and a b)

pub returns-then-not-shares_value : goal.returns-then-not-shares_value
returns-then-not-shares_value g c =
    let s = g.P.Part.set in
    let a = c.args.a.now in
    let b = c.args.b.now in
    let i = c.loop-i.i in
    let n = c.min-both.result in
    let h : i < n = omega (arith, length-take n a) in
    let e = c.x-item.is ∙ get_or-take n a i c.x-item.result h in
    let t : test (s c.x-item.result) (s c.index-b-i.result) ≡ false = sym c.shares_value.ensures ∙ c.if-not-shares_value.true in
    pair_false meets test (λ _ _ _ _. refl) s a b i _ _ (omega (arith, c.min-both.ensures)) (omega (arith, c.min-both.ensures)) e c.index-b-i.is t (meets (map s a) (map s b)) c.loop-i.invariant

pub loop-i-preserved : goal.loop-i-preserved
loop-i-preserved g c =
    let s = g.P.Part.set in
    let a = c.args.a.now in
    let b = c.args.b.now in
    let i = c.loop-i.i in
    let n = c.min-both.result in
    let h : i < n = omega (arith, length-take n a) in
    let e = c.x-item.is ∙ get_or-take n a i c.x-item.result h in
    let t : test (s c.x-item.result) (s c.index-b-i.result) ≡ true = sym c.shares_value.ensures ∙ c.if-not-shares_value.false in
    pair_true meets test (λ _ _ _ _. refl) s a b i _ _ (omega (arith, c.min-both.ensures)) (omega (arith, c.min-both.ensures)) e c.index-b-i.is t (meets (map s a) (map s b)) c.loop-i.invariant

pub returns : goal.returns
returns g c =
    let s = g.P.Part.set in
    let a = c.args.a.now in
    let b = c.args.b.now in
    pair_none meets (λ _. refl) (elim [ [] ↦ refl | _ ∷ _ ↦ refl ]) s a b c.loop-i.i (omega (arith, c.min-both.ensures, length-take c.min-both.result a)) (meets (map s a) (map s b)) c.loop-i.invariant
