use Rattle.std.proofs.Common.{◌≡◌, ℕ, ◌<◌, Bool, true, false, eqb, [], ◌∷◌, map, sym, refl, ◌∙◌, arith}
use Rattle.std.proofs.lemmas.List.{length-take, get_or-take}
use Rattle.parts.specs.Sets.{minus}
use Rattle.cubes.specs.Cubes.{covers}
use Rattle.cubes.proofs.Pairs.{pair_true, pair_false, pair_none}
use Rattle.cubes.proofs.cube.covers.Goals as goal

abbrev test : ℕ → ℕ → Bool
test a b = eqb (minus b a) 0

pub returns-then-not-lies_within : goal.returns-then-not-lies_within
returns-then-not-lies_within g c =
    let s = g.P.Part.set in
    let a = c.args.a.now in
    let b = c.args.b.now in
    let i = c.loop-i.i in
    let n = c.min-both.result in
    let h : i < n = omega (arith, length-take n a) in
    let e = c.x-item.is ∙ get_or-take n a i c.x-item.result h in
    let t : test (s c.x-item.result) (s c.index-b-i.result) ≡ false = sym c.lies_within.ensures ∙ c.if-not-lies_within.true in
    pair_false covers test (λ _ _ _ _. refl) s a b i _ _ (omega (arith, c.min-both.ensures)) (omega (arith, c.min-both.ensures)) e c.index-b-i.is t (covers (map s a) (map s b)) c.loop-i.invariant

pub loop-i-preserved : goal.loop-i-preserved
loop-i-preserved g c =
    let s = g.P.Part.set in
    let a = c.args.a.now in
    let b = c.args.b.now in
    let i = c.loop-i.i in
    let n = c.min-both.result in
    let h : i < n = omega (arith, length-take n a) in
    let e = c.x-item.is ∙ get_or-take n a i c.x-item.result h in
    let t : test (s c.x-item.result) (s c.index-b-i.result) ≡ true = sym c.lies_within.ensures ∙ c.if-not-lies_within.false in
    pair_true covers test (λ _ _ _ _. refl) s a b i _ _ (omega (arith, c.min-both.ensures)) (omega (arith, c.min-both.ensures)) e c.index-b-i.is t (covers (map s a) (map s b)) c.loop-i.invariant

pub returns : goal.returns
returns g c =
    let s = g.P.Part.set in
    let a = c.args.a.now in
    let b = c.args.b.now in
    pair_none covers (λ _. refl) (elim [ [] ↦ refl | _ ∷ _ ↦ refl ]) s a b c.loop-i.i (omega (arith, c.min-both.ensures, length-take c.min-both.result a)) (covers (map s a) (map s b)) c.loop-i.invariant
