use Rattle.std.proofs.Common.{rules, ◌≡◌, ◌*◌, ◌≤◌, true, length, sym, ap, ◌∙◌, inl, inr, ⊎_elim, arith}
use Rattle.cubes.specs.Areas.{cubes}
use Rattle.cubes.specs.Lists.{left}
use Rattle.cubes.proofs.Areas.{wide_cubes}
use Rattle.table.specs.Cards.{is_on, on_cubes}
use Rattle.table.proofs.Beside.{on_is, on_end}
use Rattle.table.proofs.OnRows.{copying_none, copying_on, copying_room, copying-card, copying_all, length-on_cubes}
use Rattle.table.proofs.open.copy_on_rows.Goals as goal

pub loop-cube-init : goal.loop-cube-init
loop-cube-init g c =
    let l = c.args.rows.now.cubes in
    let p = l.p in
    let cs = c.args.rows.now.cards.now in
    let start = c.into_iter-cube-iterator.result in
    let C : left start.a ≡ cubes p l.n l.parts.now = ap (λ z. left z.a) c.into_iter-cube-iterator.ensures.into_iter_gives ∙ ap left c.zip-cube-items.ensures.first ∙ c.iter.ensures.rest in
    let K : start.b.rest.now ≡ cs = search rules in (
      rw (C, K, on_is p l.n l.parts.now cs c.args.rows.now.beside) (copying_none p (cubes p l.n l.parts.now) cs c.args.solution.now c.args.notes.now),
      rw C (wide_cubes p l.n l.parts.now l.fits),
    )

pub copy_cube-requires-clause-p_in_bounds : goal.copy_cube-requires-clause-p_in_bounds
copy_cube-requires-clause-p_in_bounds g c =
    let l = c.args.rows.now.cubes in
    let p = l.p in
    let cs = c.args.rows.now.cards.now in
    let all = on_cubes p l.n l.parts.now cs in
    let steps = c.in-Some.ensures.steps in
    let E = c.args.solution.now in
    let F = c.args.notes.now in
    let next = c.next.new.self in
    let count = length-on_cubes p l.n l.parts.now cs in
    let t : is_on c.in-Some.card.now ≡ true = sym c.is_on.ensures ∙ c.if-is_on.true in
    let inv = rw (steps.0, steps.1) at c.loop-cube.invariant in
    let fits : length all * p ≤ length c.loop-cube.solution = rw count (omega (arith, c.requires.room, c.loop-cube.auto.solution)) in
    rw c.width-p.ensures (copying_room p all E F c.in-Some.cube.now (left next.a) c.in-Some.card.now next.b.rest.now c.loop-cube.on c.loop-cube.solution c.loop-cube.notes inv.0 t fits)

pub bounds-notes-on : goal.bounds-notes-on
bounds-notes-on g c =
    let l = c.args.rows.now.cubes in
    let p = l.p in
    let cs = c.args.rows.now.cards.now in
    let all = on_cubes p l.n l.parts.now cs in
    let steps = c.in-Some.ensures.steps in
    let E = c.args.solution.now in
    let F = c.args.notes.now in
    let next = c.next.new.self in
    let count = length-on_cubes p l.n l.parts.now cs in
    let t : is_on c.in-Some.card.now ≡ true = sym c.is_on.ensures ∙ c.if-is_on.true in
    let inv = rw (steps.0, steps.1) at c.loop-cube.invariant in
    copying-card p all E F c.in-Some.cube.now (left next.a) c.in-Some.card.now next.b.rest.now c.loop-cube.on c.loop-cube.solution c.loop-cube.notes inv.0 t (omega (arith, count, c.requires.noted, c.loop-cube.auto.notes))

pub loop-cube-preserved-then-is_on : goal.loop-cube-preserved-then-is_on
loop-cube-preserved-then-is_on g c =
    let l = c.args.rows.now.cubes in
    let p = l.p in
    let cs = c.args.rows.now.cards.now in
    let all = on_cubes p l.n l.parts.now cs in
    let steps = c.in-Some.ensures.steps in
    let E = c.args.solution.now in
    let F = c.args.notes.now in
    let next = c.next.new.self in
    let count = length-on_cubes p l.n l.parts.now cs in
    let t : is_on c.in-Some.card.now ≡ true = sym c.is_on.ensures ∙ c.if-is_on.true in
    let inv = rw (steps.0, steps.1) at c.loop-cube.invariant in
    let fits : length all * p ≤ length c.loop-cube.solution = rw count (omega (arith, c.requires.room, c.loop-cube.auto.solution)) in
    let room = copying_room p all E F c.in-Some.cube.now (left next.a) c.in-Some.card.now next.b.rest.now c.loop-cube.on c.loop-cube.solution c.loop-cube.notes inv.0 t fits in
    let noted = copying-card p all E F c.in-Some.cube.now (left next.a) c.in-Some.card.now next.b.rest.now c.loop-cube.on c.loop-cube.solution c.loop-cube.notes inv.0 t (omega (arith, count, c.requires.noted, c.loop-cube.auto.notes)) in
    (rw (c.copy_cube.ensures, c.width-p.ensures, c.blank.ensures) (copying_on p all E F c.in-Some.cube.now (left next.a) c.in-Some.card.now next.b.rest.now c.loop-cube.on c.loop-cube.solution c.loop-cube.notes inv.0 t inv.1.0 room noted), inv.1.1)

pub returns : goal.returns
returns g c =
    let l = c.args.rows.now.cubes in
    let p = l.p in
    let cs = c.args.rows.now.cards.now in
    let all = on_cubes p l.n l.parts.now cs in
    let rest = c.loop-cube.cube-iterator in
    let count = length-on_cubes p l.n l.parts.now cs in
    let none = on_end (left rest.a) rest.b.rest.now (⊎_elim (λ h. inl h.1.0) (λ h. inr h.1.0) c.in-None.ensures.steps) in
    let done = copying_all p all c.args.solution.now c.args.notes.now (left rest.a) rest.b.rest.now c.loop-cube.on c.loop-cube.solution c.loop-cube.notes none
    (rw count (omega (arith, c.requires.room, c.loop-cube.auto.solution))) (omega (arith, count, c.requires.noted, c.loop-cube.auto.notes)) c.loop-cube.invariant.0 in
    record { count = done.0 ∙ count; cubes = done.1; cards = rw count at done.2 }
