use Rattle.std.proofs.Common.{◌-◌, map, length, sym, refl, ap, ◌∙◌, arith}
use Rattle.std.proofs.lemmas.List.{length-set}
use Rattle.cubes.specs.Lists.{sets_of}
use Rattle.cubes.proofs.Areas.{length-cube_at}
use Rattle.walk.specs.Stack.{stack_of}
use Rattle.walk.proofs.Walks.{seen, starts, top-fits, number_most, depth_most, depth-fits, out-weight, gone_walked, full-answer, full-stays, full-written, free_space, free_walked, cut_below, cut-listed, cut-room, cut_fits, cut-weight, cut_walked, end_answer, end_stays, end_written}
use Rattle.walk.proofs.rest.rest_of.Goals as goal

pub loop-piece-init : goal.loop-piece-init
loop-piece-init g c =
    let l = c.args.list.now in
    (starts g.P.Part.set l.p l.n c.args.most l.parts.now c.args.work.now c.args.out.now c.args.numbers.now (omega (arith, c.requires.room)) c.requires.fits c.requires.space l.fits, c.width-p.ensures, refl)

pub top-requires-clause-fits : goal.top-requires-clause-fits
top-requires-clause-fits g c = rw c.loop-piece.invariant.1 (depth-fits c.loop-piece.invariant.0)

pub top-requires-clause-beside : goal.top-requires-clause-beside
top-requires-clause-beside g c = omega (arith, depth_most c.loop-piece.invariant.0, c.loop-piece.invariant.2, length-set c.args.numbers.now 0 0, c.requires.room)

pub look_ahead-requires : goal.look_ahead-requires
look_ahead-requires g c = let t = c.in-Some.ensures.piece in omega (arith, number_most c.loop-piece.invariant.0 t.0, t.2)

-- ---- some row covers the piece

pub loop-piece-smaller-in-Gone : goal.loop-piece-smaller-in-Gone
loop-piece-smaller-in-Gone g c =
    let s = g.P.Part.set in
    let l = c.args.list.now in
    let k = c.loop-piece.stack in
    let inv = c.loop-piece.invariant in
    let x = seen s l.p (sets_of s l) k c.in-Some.piece.now c.in-Some.next c.look_ahead.result inv.1 c.in-Some.ensures.piece c.look_ahead.ensures in
    rw (c.pop.ensures.depth, c.pop.ensures.work, c.pop.ensures.numbers) (out-weight inv.0 x.some)

pub loop-piece-preserved-in-Gone : goal.loop-piece-preserved-in-Gone
loop-piece-preserved-in-Gone g c =
    let s = g.P.Part.set in
    let l = c.args.list.now in
    let k = c.loop-piece.stack in
    let inv = c.loop-piece.invariant in
    let x = seen s l.p (sets_of s l) k c.in-Some.piece.now c.in-Some.next c.look_ahead.result inv.1 c.in-Some.ensures.piece c.look_ahead.ensures in
    (rw (c.pop.ensures.depth, c.pop.ensures.work, c.pop.ensures.numbers) (gone_walked inv.0 x.some c.in-Some.piece.now c.look_ahead.result x.read x.look c.in-Gone.is), c.pop.ensures.kept.p ∙ inv.1, c.pop.ensures.kept.numbers ∙ inv.2)

-- ---- a row cuts the piece

pub cube-requires : goal.cube-requires
cube-requires g c =
    let s = g.P.Part.set in
    let l = c.args.list.now in
    let k = c.loop-piece.stack in
    let inv = c.loop-piece.invariant in
    let x = seen s l.p (sets_of s l) k c.in-Some.piece.now c.in-Some.next c.look_ahead.result inv.1 c.in-Some.ensures.piece c.look_ahead.ensures in
    cut_below inv.0 x.some c.in-Some.piece.now c.look_ahead.result x.read x.look c.in-Cut.j c.in-Cut.is

pub overflow_add-j : goal.overflow_add-j
overflow_add-j g c =
    let s = g.P.Part.set in
    let l = c.args.list.now in
    let k = c.loop-piece.stack in
    let inv = c.loop-piece.invariant in
    let x = seen s l.p (sets_of s l) k c.in-Some.piece.now c.in-Some.next c.look_ahead.result inv.1 c.in-Some.ensures.piece c.look_ahead.ensures in
    omega (arith, cut_below inv.0 x.some c.in-Some.piece.now c.look_ahead.result x.read x.look c.in-Cut.j c.in-Cut.is, l.counted)

pub cut-requires-clause-fits : goal.cut-requires-clause-fits
cut-requires-clause-fits g c =
    let s = g.P.Part.set in
    let l = c.args.list.now in
    let k = c.loop-piece.stack in
    let inv = c.loop-piece.invariant in
    let x = seen s l.p (sets_of s l) k c.in-Some.piece.now c.in-Some.next c.look_ahead.result inv.1 c.in-Some.ensures.piece c.look_ahead.ensures in
    rw inv.1 (cut_fits inv.0 x.some c.in-Some.piece.now c.look_ahead.result x.read x.look c.in-Cut.j c.in-Cut.is c.requires.some)

pub cut-requires-clause-room : goal.cut-requires-clause-room
cut-requires-clause-room g c =
    let s = g.P.Part.set in
    let l = c.args.list.now in
    let k = c.loop-piece.stack in
    let inv = c.loop-piece.invariant in
    let x = seen s l.p (sets_of s l) k c.in-Some.piece.now c.in-Some.next c.look_ahead.result inv.1 c.in-Some.ensures.piece c.look_ahead.ensures in
    omega (arith, cut-room inv.0 x.some c.in-Some.piece.now c.look_ahead.result x.read x.look c.in-Cut.j c.in-Cut.is c.requires.some, inv.1, inv.2, length-set c.args.numbers.now 0 0, c.requires.room)

pub cut-requires-clause-size : goal.cut-requires-clause-size
cut-requires-clause-size g c =
    let s = g.P.Part.set in
    let l = c.args.list.now in
    let k = c.loop-piece.stack in
    let inv = c.loop-piece.invariant in
    let x = seen s l.p (sets_of s l) k c.in-Some.piece.now c.in-Some.next c.look_ahead.result inv.1 c.in-Some.ensures.piece c.look_ahead.ensures in
    ap length c.cube.ensures ∙ length-cube_at l.p c.in-Cut.j l.parts.now (cut-listed inv.0 x.some c.in-Some.piece.now c.look_ahead.result x.read x.look c.in-Cut.j c.in-Cut.is) ∙ sym inv.1

pub loop-piece-smaller-in-Cut : goal.loop-piece-smaller-in-Cut
loop-piece-smaller-in-Cut g c =
    let s = g.P.Part.set in
    let l = c.args.list.now in
    let k = c.loop-piece.stack in
    let inv = c.loop-piece.invariant in
    let x = seen s l.p (sets_of s l) k c.in-Some.piece.now c.in-Some.next c.look_ahead.result inv.1 c.in-Some.ensures.piece c.look_ahead.ensures in
    let new = c.cut.new.self in
    let made = rw inv.1 at (ap (λ m. stack_of m new.depth (map s new.work.now) new.numbers.now) (sym c.cut.ensures.kept.p) ∙ c.cut.ensures.stack) in
    cut-weight inv.0 x.some c.in-Some.piece.now c.look_ahead.result x.read x.look c.in-Cut.j c.in-Cut.is c.cube.result.now new.work.now new.numbers.now new.depth c.cube.ensures made

pub loop-piece-preserved-in-Cut : goal.loop-piece-preserved-in-Cut
loop-piece-preserved-in-Cut g c =
    let s = g.P.Part.set in
    let l = c.args.list.now in
    let k = c.loop-piece.stack in
    let inv = c.loop-piece.invariant in
    let x = seen s l.p (sets_of s l) k c.in-Some.piece.now c.in-Some.next c.look_ahead.result inv.1 c.in-Some.ensures.piece c.look_ahead.ensures in
    let new = c.cut.new.self in
    let made = rw inv.1 at (ap (λ m. stack_of m new.depth (map s new.work.now) new.numbers.now) (sym c.cut.ensures.kept.p) ∙ c.cut.ensures.stack) in
    (cut_walked inv.0 x.some c.in-Some.piece.now c.look_ahead.result x.read x.look c.in-Cut.j c.in-Cut.is c.cube.result.now new.work.now new.numbers.now new.depth c.cube.ensures made c.cut.ensures.kept.work, c.cut.ensures.kept.p ∙ inv.1, c.cut.ensures.kept.numbers ∙ inv.2)

-- ---- no row meets the piece

pub returns-then-count-most-clause-answer : goal.returns-then-count-most-clause-answer
returns-then-count-most-clause-answer g c =
    let s = g.P.Part.set in
    let l = c.args.list.now in
    let k = c.loop-piece.stack in
    let inv = c.loop-piece.invariant in
    let x = seen s l.p (sets_of s l) k c.in-Some.piece.now c.in-Some.next c.look_ahead.result inv.1 c.in-Some.ensures.piece c.look_ahead.ensures in
    full-answer inv.0 x.some c.in-Some.piece.now c.look_ahead.result x.read x.look c.in-Free.is c.if-count-most.true

pub returns-then-count-most-clause-written : goal.returns-then-count-most-clause-written
returns-then-count-most-clause-written g c =
    let s = g.P.Part.set in
    let l = c.args.list.now in
    let k = c.loop-piece.stack in
    let inv = c.loop-piece.invariant in
    let x = seen s l.p (sets_of s l) k c.in-Some.piece.now c.in-Some.next c.look_ahead.result inv.1 c.in-Some.ensures.piece c.look_ahead.ensures in
    full-written inv.0 x.some c.in-Some.piece.now c.look_ahead.result x.read x.look c.in-Free.is c.if-count-most.true

pub returns-then-count-most-clause-stays : goal.returns-then-count-most-clause-stays
returns-then-count-most-clause-stays g c =
    let s = g.P.Part.set in
    let l = c.args.list.now in
    let k = c.loop-piece.stack in
    let inv = c.loop-piece.invariant in
    let x = seen s l.p (sets_of s l) k c.in-Some.piece.now c.in-Some.next c.look_ahead.result inv.1 c.in-Some.ensures.piece c.look_ahead.ensures in
    full-stays inv.0 x.some c.in-Some.piece.now c.look_ahead.result x.read x.look c.in-Free.is c.if-count-most.true

pub copy_cube-requires-clause-src_len : goal.copy_cube-requires-clause-src_len
copy_cube-requires-clause-src_len g c =
    let s = g.P.Part.set in
    let l = c.args.list.now in
    let k = c.loop-piece.stack in
    let inv = c.loop-piece.invariant in
    let x = seen s l.p (sets_of s l) k c.in-Some.piece.now c.in-Some.next c.look_ahead.result inv.1 c.in-Some.ensures.piece c.look_ahead.ensures in
    ap length x.read ∙ length-cube_at l.p (k.depth - 1) k.work.now (top-fits inv.0 x.some) ∙ sym c.width-p.ensures

pub copy_cube-requires-clause-p_in_bounds : goal.copy_cube-requires-clause-p_in_bounds
copy_cube-requires-clause-p_in_bounds g c =
    let s = g.P.Part.set in
    let l = c.args.list.now in
    let k = c.loop-piece.stack in
    let inv = c.loop-piece.invariant in
    let x = seen s l.p (sets_of s l) k c.in-Some.piece.now c.in-Some.next c.look_ahead.result inv.1 c.in-Some.ensures.piece c.look_ahead.ensures in
    rw c.width-p.ensures (free_space inv.0 x.some c.in-Some.piece.now c.look_ahead.result x.read x.look c.if-count-most.false)

pub loop-piece-smaller : goal.loop-piece-smaller
loop-piece-smaller g c =
    let s = g.P.Part.set in
    let l = c.args.list.now in
    let k = c.loop-piece.stack in
    let inv = c.loop-piece.invariant in
    let x = seen s l.p (sets_of s l) k c.in-Some.piece.now c.in-Some.next c.look_ahead.result inv.1 c.in-Some.ensures.piece c.look_ahead.ensures in
    rw (c.pop-in-Free.ensures.depth, c.pop-in-Free.ensures.work, c.pop-in-Free.ensures.numbers) (out-weight inv.0 x.some)

pub loop-piece-preserved : goal.loop-piece-preserved
loop-piece-preserved g c =
    let s = g.P.Part.set in
    let l = c.args.list.now in
    let k = c.loop-piece.stack in
    let inv = c.loop-piece.invariant in
    let x = seen s l.p (sets_of s l) k c.in-Some.piece.now c.in-Some.next c.look_ahead.result inv.1 c.in-Some.ensures.piece c.look_ahead.ensures in
    let pop = c.pop-in-Free.ensures in
    (rw (pop.depth, pop.work, pop.numbers) (free_walked inv.0 x.some c.in-Some.piece.now c.look_ahead.result x.read x.look c.in-Free.is c.if-count-most.false c.in-Some.piece.now c.copy_cube.new.dst x.read (rw c.width-p.ensures at c.copy_cube.ensures)), pop.kept.p ∙ inv.1, pop.kept.numbers ∙ inv.2)

-- ---- no piece is left

pub returns-clause-answer : goal.returns-clause-answer
returns-clause-answer g c = end_answer c.loop-piece.invariant.0 (c.top.ensures.none c.in_default.is)

pub returns-clause-written : goal.returns-clause-written
returns-clause-written g c = end_written c.loop-piece.invariant.0 (c.top.ensures.none c.in_default.is)

pub returns-clause-stays : goal.returns-clause-stays
returns-clause-stays g c = end_stays c.loop-piece.invariant.0 (c.top.ensures.none c.in_default.is)
