use Rattle.std.proofs.Common.{Err, sym, ap, ◌∙◌, arith}
use Rattle.std.proofs.lemmas.Result.{err_from_is_err_and}
use Rattle.table.specs.Filling.{area_verdict}
use Rattle.table.proofs.OnRows.{on_taken}
use Rattle.table.proofs.Verdicts.{then_ok, then_err, area_passed}
use Rattle.table.proofs.open.check_open.Goals as goal

pub returns-in_err-check_area-3 : goal.returns-in_err-check_area-3
returns-in_err-check_area-3 c =
    let q = err_from_is_err_and c.from_residual-in_err-check_area-3.result c.from_residual-in_err-check_area-3.ensures.1 in
    let few = area_passed 2 c.args.has.table c.args.rows (sym c.in_ok-check_area-2.ensures) in
    let on = c.count_on.ensures ∙ on_taken c.args.rows c.args.cards.now (omega (arith, few, c.requires.beside)) in
    q.1 ∙ sym (then_ok _ _ (sym c.in_ok-check_area.ensures) ∙ then_ok _ _ (sym c.in_ok-check_area-2.ensures)
    ∙ then_err _ _ q.0 (ap (area_verdict 4 c.args.has.solution) (sym on) ∙ sym c.in_err-check_area-3.ensures ∙ ap Err (sym q.2)))

pub returns : goal.returns
returns c =
    let few = area_passed 2 c.args.has.table c.args.rows (sym c.in_ok-check_area-2.ensures) in
    let on = c.count_on.ensures ∙ on_taken c.args.rows c.args.cards.now (omega (arith, few, c.requires.beside)) in
    sym (then_ok _ _ (sym c.in_ok-check_area.ensures) ∙ then_ok _ _ (sym c.in_ok-check_area-2.ensures)
    ∙ then_ok _ _ (ap (area_verdict 4 c.args.has.solution) (sym on) ∙ sym c.in_ok-check_area-3.ensures) ∙ sym c.check_area-4.ensures)
