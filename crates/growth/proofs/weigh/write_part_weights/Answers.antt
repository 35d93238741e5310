use Rattle.std.proofs.Common.{◌≡◌, ℕ, ◌+◌, ◌<◌, false, true, cond, ◌&&◌, eqb, map, get_or, sym, ap, ap₂, ◌∙◌, arith}
use Rattle.parts.specs.Sets.{minus}
use Rattle.parts.specs.Models.{word_set}
use Rattle.cubes.specs.Areas.{cubes, cube_at}
use Rattle.cubes.specs.Cubes.{covers}
use Rattle.cubes.proofs.Areas.{map-cube_at}
use Rattle.cubes.proofs.Reading.{below, left_is, read_all}
use Rattle.moves.specs.Expand.{part_weight}
use Rattle.growth.specs.Others.{others}
use Rattle.growth.proofs.Lists.{width_is, sets_at}
use Rattle.growth.proofs.Weighed.{adds, around_le, around-itself, around_more}
use Rattle.growth.proofs.weigh.write_part_weights.Goals as goal
use Rattle.growth.proofs.weigh.write_part_weights.Goals.{then-i-at+then-within_words, else-i-at, else-i-at-via-then-i-at+else-within_words, else-i-at-via-else-i-at}

pub add_weights-requires-clause-cube : goal.add_weights-requires-clause-cube
add_weights-requires-clause-cube g c =
    omega (arith, width_is c.args.solution.now c.loop-i.i c.in-Some.cube.now _ (sym c.loop-i.invariant.left ∙ c.in-Some.ensures.steps), c.loop-i.auto.weights, c.fill.ensures.len, c.requires.size)

pub add_weights-requires-clause-room : goal.add_weights-requires-clause-room
add_weights-requires-clause-room g c =
    let s = g.P.Part.set in
    let p = c.args.solution.now.p in
    let X = map s c.args.solution.now.parts.now in
    let i = c.loop-i.i in
    let L = c.args.solution.now in
    let here = below p L.n L.parts.now i c.in-Some.cube.now _ (sym c.loop-i.invariant.left ∙ c.in-Some.ensures.steps) in
    λ k h.
    let l : k < p = omega (arith, c.loop-i.auto.weights, c.fill.ensures.len, c.requires.size) in
    omega (arith, here, c.args.solution.now.counted, c.loop-i.invariant.weighed k l, around_le p c.args.at i k (map word_set c.args.over.now) (cube_at p c.args.at X) X)

pub loop-i-preserved : goal.loop-i-preserved
loop-i-preserved g c =
    let s = g.P.Part.set in
    let l = c.args.solution.now in
    let p = l.p in
    let at = c.args.at in
    let i = c.loop-i.i in
    let X = map s l.parts.now in
    let O = map word_set c.args.over.now in
    let F = cube_at p at X in
    let C = cube_at p i X in
    let next = sym c.loop-i.invariant.left ∙ c.in-Some.ensures.steps in
    let here = below p l.n l.parts.now i c.in-Some.cube.now _ next in
    let cube : map s c.in-Some.cube.now ≡ C = sets_at l i c.in-Some.cube.now _ next s in
    let f : map s c.cube-f.result.now ≡ F = ap (map s) c.cube-f.ensures ∙ map-cube_at s p at l.parts.now in
    record {
      few = omega (arith, here);
      left = sym (left_is p l.n l.parts.now i c.in-Some.cube.now _ next);
      weighed = elim c.if-i-at.branch [
        | then-i-at+then-within_words w ↦ λ k h.
            let within : covers O C ≡ true = ap (covers O) (sym cube) ∙ sym w.within_words.ensures ∙ w.if-within_words.true in
            let d : adds O F k C ≡ cond (eqb (minus (get_or (map s c.in-Some.cube.now) k 0) (get_or (map s c.cube-f.result.now) k 0)) 0) 1 0 =
            ap (λ b. cond (b && eqb (minus (get_or C k 0) (get_or F k 0)) 0) 1 0) within
            ∙ ap₂ (λ (A B : _). cond (eqb (minus (get_or A k 0) (get_or B k 0)) 0) 1 0) (sym cube) (sym f) in
            ap (λ L. get_or L k 0) w.weights-is ∙ w.add_weights.ensures k (omega (arith, c.loop-i.auto.weights, c.fill.ensures.len, c.requires.size))
            ∙ ap₂ (λ (m n : ℕ). m + n) (c.loop-i.invariant.weighed k h) (sym d) ∙ sym (around_more p at i k O F X w.if-i-at.true)
        | else-i-at w ↦ elim w.else-i-at.branch [
          | else-i-at-via-then-i-at+else-within_words v ↦ λ k h.
              let within : covers O C ≡ false = ap (covers O) (sym cube) ∙ sym v.within_words.ensures ∙ v.if-within_words.false in
              let d : adds O F k C ≡ 0 = ap (λ b. cond (b && eqb (minus (get_or C k 0) (get_or F k 0)) 0) 1 0) within in
              ap (λ L. get_or L k 0) w.weights-is ∙ c.loop-i.invariant.weighed k h ∙ omega (arith, d, around_more p at i k O F X v.if-i-at.true)
          | else-i-at-via-else-i-at v ↦ λ k h.
              ap (λ L. get_or L k 0) w.weights-is ∙ c.loop-i.invariant.weighed k h ∙ sym (around-itself p at i k O F X v.if-i-at.false)
        ]
      ];
    }

pub returns : goal.returns
returns g c =
    let s = g.P.Part.set in
    let l = c.args.solution.now in
    let X = map s l.parts.now in
    let end = read_all l.p l.n l.parts.now c.loop-i.i (sym c.loop-i.invariant.left ∙ c.in-None.ensures.steps.0) in
    let all : c.loop-i.i ≡ l.n = omega (arith, end, c.loop-i.invariant.few) in
    λ k h. c.loop-i.invariant.weighed k h ∙ ap (λ n. part_weight (map word_set c.args.over.now) (cube_at l.p c.args.at X) (others c.args.at (cubes l.p n X)) k) all
