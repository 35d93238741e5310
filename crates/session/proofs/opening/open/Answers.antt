use Rattle.std.proofs.Common.{◌≡◌, map, length, take, Ok, Err, sym, refl, ap, ◌∙◌, ap₂, arith}
use Rattle.std.proofs.lemmas.Bool.{leb-true}
use Rattle.std.proofs.lemmas.List.{length-map, take_all}
use Rattle.faults.specs.declared.Cause.TheVariants.{Off}
use Rattle.cubes.specs.Areas.{flat, overlay}
use Rattle.table.specs.Cards.{on_count}
use Rattle.table.specs.Opening.{off_most, off_list}
use Rattle.table.specs.Lists.{off_answer}
use Rattle.session.specs.Calls.{leaving}
use Rattle.session.specs.States.{filling, by_engine}
use Rattle.session.proofs.Opened.{opened-room, leaves_full, leaves_open, leaving-same, copied_sets, copied_stays, exactly-at, on_few, off_refused, off_answered, off_same}
use Rattle.session.proofs.opening.open.Goals as goal

pub returns-in-Err-off_list-clause-leaves : goal.returns-in-Err-off_list-clause-leaves
returns-in-Err-off_list-clause-leaves g c =
    let s = g.P.Part.set in
    let t = filling c.args.t in
    let p = c.args.t.p in
    let n = c.args.t.rows in
    let off = c.args.off.now in
    let most = off_most p (length off) in
    let L = off_list p n (map s c.args.universe.now) (map s c.args.table.now) in
    let l = c.new-list.result in
    let lp : l.cubes.p ≡ p = ap (λ k. k.p) c.new-list.ensures.cubes ∙ c.new-cubes.ensures.p in
    let ln : l.cubes.n ≡ n = ap (λ k. k.n) c.new-list.ensures.cubes ∙ c.new-cubes.ensures.n in
    let lt : l.cubes.parts.now ≡ c.args.table.now = ap (λ k. k.parts.now) c.new-list.ensures.cubes ∙ c.new-cubes.ensures.parts in
    let lk : l.cards.now ≡ c.args.rows.now = c.new-list.ensures.cards in
    let same = off_same s p n c.args.universe.now c.args.table.now l.cubes lp ln lt in
    let answer : c.off_list.result ≡ off_answer most L = c.off_list.ensures.answer ∙ ap₂ (λ q C. off_answer (off_most q (length off)) C) lp same in
    let offs : map s c.off_list.new.off ≡ overlay (flat (take most L)) (map s off) = c.off_list.ensures.off ∙ ap₂ (λ q C. overlay (flat (take (off_most q (length off)) C)) (map s off)) lp same in
    let work = rw lp at c.off_list.ensures.work in
    let numbers = rw lp at c.off_list.ensures.numbers in
    let said = off_refused most L c.in-Err-off_list.cause (sym answer ∙ c.in-Err-off_list.is) in
    ap (λ f. leaving (Err (t, f)) (map s c.off_list.new.off) (map s c.args.solution.now) c.args.cards.now (map s c.off_list.new.work) c.off_list.new.numbers) (c.by-in-Err-off_list.ensures ∙ ap by_engine said.1)
    ∙ leaving-same (Err (t, by_engine (Off most))) _ _ _ _ _ _ _ _ _ _ offs refl refl work numbers
    ∙ leaves_full s t c.args.universe.now c.args.table.now c.args.rows.now off c.args.solution.now c.args.cards.now c.args.work.now c.args.numbers.now
    c.area_length.result c.area_length-2.result c.area_length-3.result c.check_open.result c.area_length.ensures c.area_length-2.ensures c.area_length-3.ensures c.check_open.ensures c.in_default.is said.0

pub copy_on_rows-count-requires-clause-room : goal.copy_on_rows-count-requires-clause-room
copy_on_rows-count-requires-clause-room g c =
    let s = g.P.Part.set in
    let t = filling c.args.t in
    let p = c.args.t.p in
    let n = c.args.t.rows in
    let off = c.args.off.now in
    let most = off_most p (length off) in
    let L = off_list p n (map s c.args.universe.now) (map s c.args.table.now) in
    let l = c.new-list.result in
    let lp : l.cubes.p ≡ p = ap (λ k. k.p) c.new-list.ensures.cubes ∙ c.new-cubes.ensures.p in
    let ln : l.cubes.n ≡ n = ap (λ k. k.n) c.new-list.ensures.cubes ∙ c.new-cubes.ensures.n in
    let lt : l.cubes.parts.now ≡ c.args.table.now = ap (λ k. k.parts.now) c.new-list.ensures.cubes ∙ c.new-cubes.ensures.parts in
    let lk : l.cards.now ≡ c.args.rows.now = c.new-list.ensures.cards in
    let same = off_same s p n c.args.universe.now c.args.table.now l.cubes lp ln lt in
    let room = opened-room s t c.args.universe.now c.args.table.now c.args.rows.now off c.args.solution.now c.args.cards.now c.args.work.now c.args.numbers.now
    c.area_length.result c.area_length-2.result c.area_length-3.result c.check_open.result c.area_length.ensures c.area_length-2.ensures c.area_length-3.ensures c.check_open.ensures c.in_default.is c.args.t.some in
    rw (lp, ln, lk) room.3

pub invariant_of-result : goal.invariant_of-result
invariant_of-result g c =
    let s = g.P.Part.set in
    let t = filling c.args.t in
    let p = c.args.t.p in
    let n = c.args.t.rows in
    let off = c.args.off.now in
    let most = off_most p (length off) in
    let L = off_list p n (map s c.args.universe.now) (map s c.args.table.now) in
    let l = c.new-list.result in
    let lp : l.cubes.p ≡ p = ap (λ k. k.p) c.new-list.ensures.cubes ∙ c.new-cubes.ensures.p in
    let ln : l.cubes.n ≡ n = ap (λ k. k.n) c.new-list.ensures.cubes ∙ c.new-cubes.ensures.n in
    let lt : l.cubes.parts.now ≡ c.args.table.now = ap (λ k. k.parts.now) c.new-list.ensures.cubes ∙ c.new-cubes.ensures.parts in
    let lk : l.cards.now ≡ c.args.rows.now = c.new-list.ensures.cards in
    let same = off_same s p n c.args.universe.now c.args.table.now l.cubes lp ln lt in
    let answer : c.off_list.result ≡ off_answer most L = c.off_list.ensures.answer ∙ ap₂ (λ q C. off_answer (off_most q (length off)) C) lp same in
    let offs : map s c.off_list.new.off ≡ overlay (flat (take most L)) (map s off) = c.off_list.ensures.off ∙ ap₂ (λ q C. overlay (flat (take (off_most q (length off)) C)) (map s off)) lp same in
    let work = rw lp at c.off_list.ensures.work in
    let numbers = rw lp at c.off_list.ensures.numbers in
    let said = off_answered most L c.in-Ok.off (sym answer ∙ c.in-Ok.is) in
    let on : c.copy_on_rows-count.result ≡ on_count n c.args.rows.now = c.copy_on_rows-count.ensures.count ∙ ap₂ on_count ln lk in
    record {
      some = c.args.t.some;
      few = c.args.t.few;
      most = c.args.t.most;
      listed = omega (arith, said.1, leb-true (length L) most said.0);
      counted = omega (arith, on, on_few n c.args.rows.now);
    }

pub returns-clause-leaves : goal.returns-clause-leaves
returns-clause-leaves g c =
    let s = g.P.Part.set in
    let t = filling c.args.t in
    let p = c.args.t.p in
    let n = c.args.t.rows in
    let off = c.args.off.now in
    let most = off_most p (length off) in
    let L = off_list p n (map s c.args.universe.now) (map s c.args.table.now) in
    let l = c.new-list.result in
    let lp : l.cubes.p ≡ p = ap (λ k. k.p) c.new-list.ensures.cubes ∙ c.new-cubes.ensures.p in
    let ln : l.cubes.n ≡ n = ap (λ k. k.n) c.new-list.ensures.cubes ∙ c.new-cubes.ensures.n in
    let lt : l.cubes.parts.now ≡ c.args.table.now = ap (λ k. k.parts.now) c.new-list.ensures.cubes ∙ c.new-cubes.ensures.parts in
    let lk : l.cards.now ≡ c.args.rows.now = c.new-list.ensures.cards in
    let same = off_same s p n c.args.universe.now c.args.table.now l.cubes lp ln lt in
    let answer : c.off_list.result ≡ off_answer most L = c.off_list.ensures.answer ∙ ap₂ (λ q C. off_answer (off_most q (length off)) C) lp same in
    let offs : map s c.off_list.new.off ≡ overlay (flat (take most L)) (map s off) = c.off_list.ensures.off ∙ ap₂ (λ q C. overlay (flat (take (off_most q (length off)) C)) (map s off)) lp same in
    let work = rw lp at c.off_list.ensures.work in
    let numbers = rw lp at c.off_list.ensures.numbers in
    let said = off_answered most L c.in-Ok.off (sym answer ∙ c.in-Ok.is) in
    let on : c.copy_on_rows-count.result ≡ on_count n c.args.rows.now = c.copy_on_rows-count.ensures.count ∙ ap₂ on_count ln lk in
    let copied = rw (lp, ln, lt, lk) at c.copy_on_rows-count.ensures.cubes in
    let rs = c.args.rows.now in
    let solution = copied_sets s p n c.args.table.now rs c.copy_on_rows-count.new.solution c.args.solution.now copied in
    let cards = rw (ln, lk) at c.copy_on_rows-count.ensures.cards in
    ap₂ (λ m k. leaving (Ok (record { p = p; rows = n; off = m; count = k })) (map s c.off_list.new.off) (map s c.copy_on_rows-count.new.solution) c.copy_on_rows-count.new.notes (map s c.off_list.new.work) c.off_list.new.numbers) said.1 on
    ∙ leaving-same (Ok (record { p = p; rows = n; off = length L; count = on_count n rs })) _ _ _ _ _ _ _ _ _ _ offs solution cards work numbers
    ∙ leaves_open s t c.args.universe.now c.args.table.now c.args.rows.now off c.args.solution.now c.args.cards.now c.args.work.now c.args.numbers.now
    c.area_length.result c.area_length-2.result c.area_length-3.result c.check_open.result c.area_length.ensures c.area_length-2.ensures c.area_length-3.ensures c.check_open.ensures c.in_default.is said.0

pub returns-clause-solution_stays : goal.returns-clause-solution_stays
returns-clause-solution_stays g c =
    let s = g.P.Part.set in
    let t = filling c.args.t in
    let p = c.args.t.p in
    let n = c.args.t.rows in
    let off = c.args.off.now in
    let most = off_most p (length off) in
    let L = off_list p n (map s c.args.universe.now) (map s c.args.table.now) in
    let l = c.new-list.result in
    let lp : l.cubes.p ≡ p = ap (λ k. k.p) c.new-list.ensures.cubes ∙ c.new-cubes.ensures.p in
    let ln : l.cubes.n ≡ n = ap (λ k. k.n) c.new-list.ensures.cubes ∙ c.new-cubes.ensures.n in
    let lt : l.cubes.parts.now ≡ c.args.table.now = ap (λ k. k.parts.now) c.new-list.ensures.cubes ∙ c.new-cubes.ensures.parts in
    let lk : l.cards.now ≡ c.args.rows.now = c.new-list.ensures.cards in
    let same = off_same s p n c.args.universe.now c.args.table.now l.cubes lp ln lt in
    let room = opened-room s t c.args.universe.now c.args.table.now c.args.rows.now off c.args.solution.now c.args.cards.now c.args.work.now c.args.numbers.now
    c.area_length.result c.area_length-2.result c.area_length-3.result c.check_open.result c.area_length.ensures c.area_length-2.ensures c.area_length-3.ensures c.check_open.ensures c.in_default.is c.args.t.some in
    let on : c.copy_on_rows-count.result ≡ on_count n c.args.rows.now = c.copy_on_rows-count.ensures.count ∙ ap₂ on_count ln lk in
    let copied = rw (lp, ln, lt, lk) at c.copy_on_rows-count.ensures.cubes in
    copied_stays p n c.copy_on_rows-count.result c.args.table.now c.args.rows.now c.copy_on_rows-count.new.solution c.args.solution.now room.1 on copied

pub returns-clause-exact : goal.returns-clause-exact
returns-clause-exact g c =
    let s = g.P.Part.set in
    let t = filling c.args.t in
    let p = c.args.t.p in
    let n = c.args.t.rows in
    let off = c.args.off.now in
    let most = off_most p (length off) in
    let L = off_list p n (map s c.args.universe.now) (map s c.args.table.now) in
    let l = c.new-list.result in
    let lp : l.cubes.p ≡ p = ap (λ k. k.p) c.new-list.ensures.cubes ∙ c.new-cubes.ensures.p in
    let ln : l.cubes.n ≡ n = ap (λ k. k.n) c.new-list.ensures.cubes ∙ c.new-cubes.ensures.n in
    let lt : l.cubes.parts.now ≡ c.args.table.now = ap (λ k. k.parts.now) c.new-list.ensures.cubes ∙ c.new-cubes.ensures.parts in
    let lk : l.cards.now ≡ c.args.rows.now = c.new-list.ensures.cards in
    let same = off_same s p n c.args.universe.now c.args.table.now l.cubes lp ln lt in
    let answer : c.off_list.result ≡ off_answer most L = c.off_list.ensures.answer ∙ ap₂ (λ q C. off_answer (off_most q (length off)) C) lp same in
    let offs : map s c.off_list.new.off ≡ overlay (flat (take most L)) (map s off) = c.off_list.ensures.off ∙ ap₂ (λ q C. overlay (flat (take (off_most q (length off)) C)) (map s off)) lp same in
    let work = rw lp at c.off_list.ensures.work in
    let numbers = rw lp at c.off_list.ensures.numbers in
    let said = off_answered most L c.in-Ok.off (sym answer ∙ c.in-Ok.is) in
    let on : c.copy_on_rows-count.result ≡ on_count n c.args.rows.now = c.copy_on_rows-count.ensures.count ∙ ap₂ on_count ln lk in
    let copied = rw (lp, ln, lt, lk) at c.copy_on_rows-count.ensures.cubes in
    let room = opened-room s t c.args.universe.now c.args.table.now c.args.rows.now off c.args.solution.now c.args.cards.now c.args.work.now c.args.numbers.now
    c.area_length.result c.area_length-2.result c.area_length-3.result c.check_open.result c.area_length.ensures c.area_length-2.ensures c.area_length-3.ensures c.check_open.ensures c.in_default.is c.args.t.some in
    let us = map s c.args.universe.now in
    let ts = map s c.args.table.now in
    let rs = c.args.rows.now in
    let few = leb-true (length L) most said.0 in
    let solution = copied_sets s p n c.args.table.now rs c.copy_on_rows-count.new.solution c.args.solution.now copied in
    exactly-at g.P.Part.MOST p n us ts rs (map s off) (map s c.args.solution.now) (omega (arith, length-map c.args.universe.now s, room.0)) (omega (arith, length-map c.args.table.now s, room.1))
    c.in-Ok.off c.copy_on_rows-count.result (map s c.off_list.new.off) (map s c.copy_on_rows-count.new.solution)
    said.1 on (offs ∙ ap (λ C. overlay (flat C) (map s off)) (take_all most L few)) solution
