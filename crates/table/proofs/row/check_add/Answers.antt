use Rattle.std.proofs.Common.{rules, ◌≡◌, map, length, Err, sym, ap, ◌∙◌, arith}
use Rattle.std.proofs.lemmas.List.{length-map, take-map}
use Rattle.std.proofs.lemmas.Result.{err_from_is_err_and}
use Rattle.table.specs.Cards.{area_length, rows_of}
use Rattle.table.specs.Filling.{area_verdict, outside_verdict, repeat_verdict, full_verdict, made_row}
use Rattle.table.specs.Lists.{rows_in}
use Rattle.table.proofs.Verdicts.{then_ok, then_err, area_passed, fits_area}
use Rattle.table.proofs.row.check_add.Goals as goal

pub returns-in_err-check_outside : goal.returns-in_err-check_outside
returns-in_err-check_outside g c =
    let s = g.P.Part.set in
    let p = c.args.p in
    let us = c.args.universe.now in
    let ts = c.args.table.now in
    let cs = c.args.cards.now in
    let v1 = ap (λ k. area_verdict 1 k p) (length-map us s) ∙ sym c.in_ok-check_area.ensures in
    let v2 = ap (λ k. area_verdict 2 (area_length p k (length cs)) c.args.rows) (length-map ts s) ∙ ap (λ k. area_verdict 2 k c.args.rows) (sym c.area_length-has.ensures) ∙ sym c.in_ok-check_area-2.ensures in
    let v3 = sym c.in_ok-check_empty.ensures in
    let q = err_from_is_err_and c.from_residual-in_err-check_outside.result c.from_residual-in_err-check_outside.ensures.1 in
    let v4 = ap (outside_verdict 0 (made_row g.P.Part.MOST c.args.words.now)) (take-map s p us) ∙ sym c.in_err-check_outside.ensures ∙ ap Err (sym q.2) in
    q.1 ∙ sym (then_ok _ _ v1 ∙ then_ok _ _ v2 ∙ then_ok _ _ v3 ∙ then_err _ _ q.0 v4)

pub new-earlier-requires : goal.new-earlier-requires
new-earlier-requires g c =
    let a = area_passed 2 c.area_length-has.result c.args.rows (sym c.in_ok-check_area-2.ensures) in
    (fits_area c.args.p (length c.args.table.now) (length c.args.cards.now) c.args.rows c.requires.some (omega (arith, c.area_length-has.ensures))).0

pub returns-in_err-check_repeat : goal.returns-in_err-check_repeat
returns-in_err-check_repeat g c =
    let s = g.P.Part.set in
    let p = c.args.p in
    let us = c.args.universe.now in
    let ts = c.args.table.now in
    let cs = c.args.cards.now in
    let v1 = ap (λ k. area_verdict 1 k p) (length-map us s) ∙ sym c.in_ok-check_area.ensures in
    let v2 = ap (λ k. area_verdict 2 (area_length p k (length cs)) c.args.rows) (length-map ts s) ∙ ap (λ k. area_verdict 2 k c.args.rows) (sym c.area_length-has.ensures) ∙ sym c.in_ok-check_area-2.ensures in
    let v3 = sym c.in_ok-check_empty.ensures in
    let v4 = ap (outside_verdict 0 (made_row g.P.Part.MOST c.args.words.now)) (take-map s p us) ∙ sym c.in_ok-check_outside.ensures in
    let rows : rows_of p c.args.rows (map s ts) cs ≡ rows_in s c.new.result = search rules in
    let q = err_from_is_err_and c.from_residual-in_err-check_repeat.result c.from_residual-in_err-check_repeat.ensures.1 in
    let v5 = ap (repeat_verdict c.args.kind (made_row g.P.Part.MOST c.args.words.now) 0) rows ∙ sym c.in_err-check_repeat.ensures ∙ ap Err (sym q.2) in
    q.1 ∙ sym (then_ok _ _ v1 ∙ then_ok _ _ v2 ∙ then_ok _ _ v3 ∙ then_ok _ _ v4 ∙ then_err _ _ q.0 v5)

pub returns : goal.returns
returns g c =
    let s = g.P.Part.set in
    let p = c.args.p in
    let us = c.args.universe.now in
    let ts = c.args.table.now in
    let cs = c.args.cards.now in
    let v1 = ap (λ k. area_verdict 1 k p) (length-map us s) ∙ sym c.in_ok-check_area.ensures in
    let v2 = ap (λ k. area_verdict 2 (area_length p k (length cs)) c.args.rows) (length-map ts s) ∙ ap (λ k. area_verdict 2 k c.args.rows) (sym c.area_length-has.ensures) ∙ sym c.in_ok-check_area-2.ensures in
    let v3 = sym c.in_ok-check_empty.ensures in
    let v4 = ap (outside_verdict 0 (made_row g.P.Part.MOST c.args.words.now)) (take-map s p us) ∙ sym c.in_ok-check_outside.ensures in
    let rows : rows_of p c.args.rows (map s ts) cs ≡ rows_in s c.new.result = search rules in
    let v5 = ap (repeat_verdict c.args.kind (made_row g.P.Part.MOST c.args.words.now) 0) rows ∙ sym c.in_ok-check_repeat.ensures in
    let v6 = ap (λ k. full_verdict c.args.rows (area_length p k (length cs))) (length-map ts s) ∙ ap (full_verdict c.args.rows) (sym c.area_length-has.ensures) ∙ sym c.check_full.ensures in
    sym (then_ok _ _ v1 ∙ then_ok _ _ v2 ∙ then_ok _ _ v3 ∙ then_ok _ _ v4 ∙ then_ok _ _ v5 ∙ v6)
