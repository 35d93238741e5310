use Rattle.std.proofs.Common.{◌≡◌, ℕ, ◌%◌, ◌^◌, true, false, eqb, get_or, sym, ap, ◌∙◌}
use Rattle.table.proofs.Verdicts.{empty-step, empty_end}
use Rattle.table.proofs.row.check_empty.Goals as goal

pub returns-then-is_empty : goal.returns-then-is_empty
returns-then-is_empty g c =
    let f : ℕ → ℕ = λ w. w % 2 ^ g.P.Part.MOST in
    let k = c.loop-part.part in
    let e : eqb (f (get_or c.args.words.now k 0)) 0 ≡ true = ap (λ n. eqb n 0) (sym c.make.ensures.value) ∙ sym c.is_empty.ensures.value ∙ c.if-is_empty.true in
    sym (sym c.loop-part.invariant ∙ empty-step f c.args.words.now k c.loop-part-test.true ∙ rw e)

pub loop-part-preserved : goal.loop-part-preserved
loop-part-preserved g c =
    let f : ℕ → ℕ = λ w. w % 2 ^ g.P.Part.MOST in
    let k = c.loop-part.part in
    let e : eqb (f (get_or c.args.words.now k 0)) 0 ≡ false = ap (λ n. eqb n 0) (sym c.make.ensures.value) ∙ sym c.is_empty.ensures.value ∙ c.if-is_empty.false in
    sym (empty-step f c.args.words.now k c.loop-part-test.true ∙ rw e) ∙ c.loop-part.invariant

pub returns : goal.returns
returns g c = sym (sym c.loop-part.invariant ∙ empty_end (λ w. w % 2 ^ g.P.Part.MOST) c.args.words.now c.loop-part.part c.loop-part-test.false)
