use Rattle.std.proofs.Common.{rules, ◌≡◌, suc, true, false, ◌&&◌, [], ◌∷◌, ◌++◌, map, length, Err, sym, ap, ◌∙◌, ap₂, inl, inr, ⊎_elim, arith}
use Rattle.std.specs.Bool.{beq}
use Rattle.std.proofs.lemmas.Bool.{and_left, and_right}
use Rattle.std.proofs.lemmas.List.{length-append}
use Rattle.faults.specs.declared.Cause.TheVariants.{Repeat}
use Rattle.faults.specs.Codes.{kind_number, is_on_kind}
use Rattle.cubes.specs.Areas.{cubes}
use Rattle.cubes.specs.Cubes.{same}
use Rattle.cubes.specs.Lists.{left}
use Rattle.table.specs.Cards.{is_on}
use Rattle.table.specs.Filling.{made_row, repeat_verdict}
use Rattle.table.proofs.Beside.{rows_beside, rows_is, rows_end}
use Rattle.table.proofs.Verdicts.{repeat_found, repeat_passed}
use Rattle.table.proofs.row.check_repeat.Goals as goal
use Rattle.table.proofs.row.check_repeat.Goals.{else-is_on-via-then-is_on+else-same_as_row, else-is_on-via-else-is_on}

pub loop-row-init : goal.loop-row-init
loop-row-init g c =
    let s = g.P.Part.set in
    let rows = c.args.rows.now in
    let start = c.into_iter-row-iterator.result.iter in
    let C : left start.a ≡ cubes rows.cubes.p rows.cubes.n rows.cubes.parts.now =
    ap (λ i. left i.iter.a) c.into_iter-row-iterator.ensures.into_iter_gives ∙ ap (λ z. left z.a) c.enumerate-row-items.ensures.source ∙ ap left c.zip.ensures.first ∙ c.iter.ensures.rest in
    let K : start.b.rest.now ≡ rows.cards.now = search rules in (
      ap₂ (λ D cs. repeat_verdict c.args.kind (made_row g.P.Part.MOST c.args.words.now) 0 (rows_beside s D cs)) C K
          ∙ ap (repeat_verdict c.args.kind (made_row g.P.Part.MOST c.args.words.now) 0) (sym (rows_is s rows.cubes.p rows.cubes.n rows.cubes.parts.now rows.cards.now rows.beside)),
      search rules,
    )

pub returns-then-same_as_row : goal.returns-then-same_as_row
returns-then-same_as_row g c =
    let s = g.P.Part.set in
    let kind = c.args.kind in
    let A = made_row g.P.Part.MOST c.args.words.now in
    let i = length c.loop-row.yielded in
    let steps = c.in-Some.ensures.steps in
    let next = c.next.new.self.iter in
    let R = rows_beside s (left next.a) next.b.rest.now in
    let k : beq (is_on c.in-Some.card.now) (is_on_kind kind) ≡ true = ap₂ beq (sym c.is_on.ensures) (sym c.is_on-in-loop-row.ensures) ∙ c.if-is_on.true in
    let q : same (map s c.in-Some.cube.now) A ≡ true = sym c.same_as_row.ensures ∙ c.if-same_as_row.true in
    ap₂ (λ j n. Err (Repeat j n)) (steps.1 ∙ c.loop-row.invariant.1) c.number_of-kind.ensures
    ∙ sym (ap₂ (λ C cs. repeat_verdict kind A i (rows_beside s C cs)) steps.0.0 steps.0.1 ∙ repeat_found kind A i _ R k q) ∙ c.loop-row.invariant.0

pub loop-row-preserved : goal.loop-row-preserved
loop-row-preserved g c =
    let s = g.P.Part.set in
    let kind = c.args.kind in
    let A = made_row g.P.Part.MOST c.args.words.now in
    let Y = c.loop-row.yielded in
    let steps = c.in-Some.ensures.steps in
    let next = c.next.new.self.iter in
    let R = rows_beside s (left next.a) next.b.rest.now in
    let more : length (Y ++ (c.in-Some.row, (c.in-Some.cube, c.in-Some.card)) ∷ []) ≡ suc (length Y) = omega (arith, length-append Y ((c.in-Some.row, (c.in-Some.cube, c.in-Some.card)) ∷ [])) in
    let k = beq (is_on c.in-Some.card.now) (is_on_kind kind) in
    let q = same (map s c.in-Some.cube.now) A in
    let t : (k && q) ≡ false = elim c.else-is_on.branch [
      | else-is_on-via-then-is_on+else-same_as_row w ↦ and_right k q (sym w.same_as_row.ensures ∙ w.if-same_as_row.false)
      | else-is_on-via-else-is_on w ↦ and_left k q (ap₂ beq (sym c.is_on.ensures) (sym c.is_on-in-loop-row.ensures) ∙ w.if-is_on.false)
    ] in (
      ap (λ j. repeat_verdict kind A j R) more
          ∙ sym (ap₂ (λ C cs. repeat_verdict kind A (length Y) (rows_beside s C cs)) steps.0.0 steps.0.1 ∙ repeat_passed kind A (length Y) _ R t) ∙ c.loop-row.invariant.0,
      omega (arith, steps.2, c.loop-row.invariant.1, more),
    )

pub returns : goal.returns
returns g c =
    let s = g.P.Part.set in
    let A = made_row g.P.Part.MOST c.args.words.now in
    let rest = c.loop-row.row-iterator.iter in
    let gone = ⊎_elim (λ h. inl h.1.0) (λ h. inr h.1.0) c.in-None.ensures.steps.0 in
    sym (ap (repeat_verdict c.args.kind A (length c.loop-row.yielded)) (rows_end s (left rest.a) rest.b.rest.now gone)) ∙ c.loop-row.invariant.0
