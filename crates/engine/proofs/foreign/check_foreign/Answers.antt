use Rattle.std.proofs.Common.{rules, ◌≡◌, ℕ, ◌+◌, ◌^◌, ◌<◌, [], map, length, get_or, Some, None, sym, ap, ◌∙◌, arith}
use Rattle.cubes.specs.Lists.{sets_of}
use Rattle.cubes.proofs.Areas.{length-cubes}
use Rattle.engine.specs.Foreign.{first_met, foreign_verdict}
use Rattle.engine.proofs.Meetings.{foreign_here, foreign_later, foreign_none, none_foreign}
use Rattle.cubes.proofs.Reading.{below, left_is, sets_is, read_all}
use Rattle.engine.proofs.foreign.check_foreign.Goals as goal

pub returns-in-Some-first_met : goal.returns-in-Some-first_met
returns-in-Some-first_met g c =
    let s = g.P.Part.set in
    let l = c.args.solution.now in
    let i = c.loop-i.i in
    let f = c.in-Some.cube.now in
    let R = sets_of s c.args.off.now in
    let C = sets_of s l in
    let next = sym c.loop-i.invariant.left ∙ c.in-Some.ensures.steps in
    let h : i < length C = omega (arith, below l.p l.n l.parts.now i f _ next, length-cubes l.p l.n (map s l.parts.now)) in
    let test : first_met 0 (get_or C i []) R ≡ Some c.in-Some-first_met.j = ap (λ d. first_met 0 d R) (sets_is l.p l.n l.parts.now i f _ next s) ∙ sym c.first_met.ensures ∙ c.in-Some-first_met.is in
    record {
      value = foreign_here R C (foreign_verdict 0 R C) i c.loop-i.invariant.same c.in-Some-first_met.j h test;
      apart = λ e. absurd (let z : ◌≡◌ {A = ℕ} 0 1 = cc in omega arith);
    }

pub overflow_step-i : goal.overflow_step-i
overflow_step-i g c =
    let l = c.args.solution.now in
    let t = c.iter-cube-items.result in
    let here = below l.p l.n l.parts.now c.loop-i.i c.in-Some.cube.now _ (sym c.loop-i.invariant.left ∙ c.in-Some.ensures.steps) in
    let same : t.n ≡ l.n = omega (arith, ap length c.iter-cube-items.ensures.rest, length-cubes t.p t.n t.rest.now, length-cubes l.p l.n l.parts.now) in
    let h : c.loop-i.i + 1 < 2 ^ 64 = omega arith in
    search rules

pub loop-i-preserved : goal.loop-i-preserved
loop-i-preserved g c =
    let s = g.P.Part.set in
    let l = c.args.solution.now in
    let i = c.loop-i.i in
    let f = c.in-Some.cube.now in
    let R = sets_of s c.args.off.now in
    let C = sets_of s l in
    let next = sym c.loop-i.invariant.left ∙ c.in-Some.ensures.steps in
    let here = below l.p l.n l.parts.now i f _ next in
    let h : i < length C = omega (arith, here, length-cubes l.p l.n (map s l.parts.now)) in
    let test : first_met 0 (get_or C i []) R ≡ None = ap (λ d. first_met 0 d R) (sets_is l.p l.n l.parts.now i f _ next s) ∙ sym c.first_met.ensures ∙ c.in_default.is in
    record { few = omega (arith, here); left = sym (left_is l.p l.n l.parts.now i f _ next); same = foreign_later R C (foreign_verdict 0 R C) i c.loop-i.invariant.same h test }

pub returns : goal.returns
returns g c =
    let s = g.P.Part.set in
    let l = c.args.solution.now in
    let R = sets_of s c.args.off.now in
    let C = sets_of s l in
    let end = read_all l.p l.n l.parts.now c.loop-i.i (sym c.loop-i.invariant.left ∙ c.in-None.ensures.steps.0) in
    let e = foreign_none R C (foreign_verdict 0 R C) c.loop-i.i c.loop-i.invariant.same (omega (arith, end, length-cubes l.p l.n (map s l.parts.now))) in
    record { value = e; apart = λ _. none_foreign 0 R C (sym e) }
