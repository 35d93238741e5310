use Rattle.std.proofs.Common.{◌≡◌, ◌<◌, false, map, length, get_or, take, Some, None, sym, ap, ◌∙◌, arith, rules}
use Rattle.std.proofs.lemmas.List.{length-take, get_or-take, length-map}
use Rattle.parts.specs.Models.{word_set}
use Rattle.cubes.specs.Areas.{cube_at}
use Rattle.cubes.specs.Cubes.{meets}
use Rattle.cubes.proofs.Areas.{map-cube_at}
use Rattle.cubes.proofs.Pairs.{read_set}
use Rattle.moves.specs.Expand.{over}
use Rattle.growth.specs.Missed.{only_missed}
use Rattle.growth.proofs.Blocked.{touches_cube, start_more, over_start, over-passed, over_step}
use Rattle.growth.proofs.Lists.{next_read, width_read, all_read, sets_read, sets_read-push}
use Rattle.growth.proofs.over.write_over_expanded.Goals as goal

pub loop-k-preserved : goal.loop-k-preserved
loop-k-preserved g c =
    let s = g.P.Part.set in
    let us = c.args.universe.now in
    let k = c.loop-k.k in
    let size : length (take c.width.result us) ≡ c.args.off.now.p = simp length-take (omega (arith, c.requires.whole, c.width.ensures)) in
    let p : k < c.args.off.now.p = omega (arith, size) in
    let u : get_or (map s us) k 0 ≡ s c.u-item.result = read_set s us k c.u-item.result (omega (arith, c.requires.whole)) (c.u-item.is ∙ get_or-take c.width.result us k c.u-item.result (omega (arith, c.width.ensures))) in
    start_more word_set s us k _ c.loop-k.over (omega (arith, c.requires.room)) (omega (arith, c.requires.whole)) c.loop-k.invariant (search rules)

pub loop-r-init : goal.loop-r-init
loop-r-init g c =
    let s = g.P.Part.set in
    let us = c.args.universe.now in
    let p = c.args.off.now.p in
    let size : length (take c.width.result us) ≡ p = simp length-take (omega (arith, c.requires.whole, c.width.ensures)) in
    let all : c.loop-k.k ≡ p = omega (arith, size) in
    over_start word_set s us p c.loop-k.over c.args.f.now c.requires.whole c.requires.size (omega (arith, c.requires.room)) (ap (λ n. take n (map word_set c.loop-k.over)) (sym all) ∙ c.loop-k.invariant ∙ ap (λ n. take n (map s us)) all)

pub blocking_part-requires : goal.blocking_part-requires
blocking_part-requires g c = c.requires.size ∙ sym (width_read c.args.off.now c.into_iter-r-iterator.result (cc) c.loop-r.yielded c.loop-r.r-iterator c.loop-r.yielded_by c.next.result c.next.new.self c.in-Some.r c.in-Some.is c.next.ensures.steps)

pub bounds-r-k : goal.bounds-r-k
bounds-r-k g c =
    let s = g.P.Part.set in
    let width = width_read c.args.off.now c.into_iter-r-iterator.result (cc) c.loop-r.yielded c.loop-r.r-iterator c.loop-r.yielded_by c.next.result c.next.new.self c.in-Some.r c.in-Some.is c.next.ensures.steps in
    omega (arith, width, c.blocking_part.ensures.once.within c.in-Some-blocking_part.k c.in-Some-blocking_part.is, c.requires.size, length-map c.args.f.now s)

pub offset_bounds-r-k : goal.offset_bounds-r-k
offset_bounds-r-k g c =
    let s = g.P.Part.set in
    let width = width_read c.args.off.now c.into_iter-r-iterator.result (cc) c.loop-r.yielded c.loop-r.r-iterator c.loop-r.yielded_by c.next.result c.next.new.self c.in-Some.r c.in-Some.is c.next.ensures.steps in
    omega (arith, width, c.blocking_part.ensures.once.within c.in-Some-blocking_part.k c.in-Some-blocking_part.is, c.requires.size, length-map c.args.f.now s)

pub loop-r-preserved-in-Some-blocking_part : goal.loop-r-preserved-in-Some-blocking_part
loop-r-preserved-in-Some-blocking_part g c =
    let s = g.P.Part.set in
    let off = c.args.off.now in
    let F = map s c.args.f.now in
    let r = c.in-Some.r.now in
    let k = c.in-Some-blocking_part.k in
    let width = width_read c.args.off.now c.into_iter-r-iterator.result (cc) c.loop-r.yielded c.loop-r.r-iterator c.loop-r.yielded_by c.next.result c.next.new.self c.in-Some.r c.in-Some.is c.next.ensures.steps in
    let read = next_read c.args.off.now c.into_iter-r-iterator.result (cc) c.loop-r.yielded c.loop-r.r-iterator c.loop-r.yielded_by c.next.result c.next.new.self c.in-Some.r c.in-Some.is c.next.ensures.steps in
    let size : length F ≡ length r = length-map c.args.f.now s ∙ c.requires.size ∙ sym width in
    let e : map s r ≡ cube_at off.p (length c.loop-r.yielded) (map s off.parts.now) = ap (map s) read.1 ∙ map-cube_at s off.p (length c.loop-r.yielded) off.parts.now in
    let apart : meets F (map s r) ≡ false = ap (meets F) e ∙ touches_cube off.p off.n (length c.loop-r.yielded) F (map s off.parts.now) c.requires.apart read.0 in
    let o : only_missed 0 F (map s r) ≡ Some k = sym c.blocking_part.ensures.value ∙ c.in-Some-blocking_part.is in
    let below : k < length F = c.blocking_part.ensures.once.within k c.in-Some-blocking_part.is in
    let x : get_or (map s r) k 0 ≡ s c.index-r-k.result = read_set s r k c.index-r-k.result (omega (arith, width, size, below)) c.index-r-k.is in
    rw (sets_read-push s c.loop-r.yielded c.in-Some.r)
    (over_step word_set s (take off.p (map s c.args.universe.now)) F (sets_read s c.loop-r.yielded) c.loop-r.over r k _ c.loop-r.invariant size apart o below (search (rules, read_set)))

pub loop-r-preserved : goal.loop-r-preserved
loop-r-preserved g c =
    let s = g.P.Part.set in
    let off = c.args.off.now in
    let F = map s c.args.f.now in
    let r = c.in-Some.r.now in
    let width = width_read c.args.off.now c.into_iter-r-iterator.result (cc) c.loop-r.yielded c.loop-r.r-iterator c.loop-r.yielded_by c.next.result c.next.new.self c.in-Some.r c.in-Some.is c.next.ensures.steps in
    let read = next_read c.args.off.now c.into_iter-r-iterator.result (cc) c.loop-r.yielded c.loop-r.r-iterator c.loop-r.yielded_by c.next.result c.next.new.self c.in-Some.r c.in-Some.is c.next.ensures.steps in
    let size : length F ≡ length (map s r) = length-map c.args.f.now s ∙ c.requires.size ∙ sym width ∙ sym (length-map r s) in
    let e : map s r ≡ cube_at off.p (length c.loop-r.yielded) (map s off.parts.now) = ap (map s) read.1 ∙ map-cube_at s off.p (length c.loop-r.yielded) off.parts.now in
    let apart : meets F (map s r) ≡ false = ap (meets F) e ∙ touches_cube off.p off.n (length c.loop-r.yielded) F (map s off.parts.now) c.requires.apart read.0 in
    let o : only_missed 0 F (map s r) ≡ None = sym c.blocking_part.ensures.value ∙ c.in_default.is in
    rw (sets_read-push s c.loop-r.yielded c.in-Some.r)
    (c.loop-r.invariant ∙ over-passed (take off.p (map s c.args.universe.now)) F (sets_read s c.loop-r.yielded) (map s r) size apart o)

pub returns : goal.returns
returns g c =
    let s = g.P.Part.set in
    let h = all_read c.args.off.now c.into_iter-r-iterator.result (cc) s c.loop-r.yielded c.loop-r.r-iterator c.loop-r.yielded_by c.next.result c.next.new.self c.in-None.is c.next.ensures.steps in
    c.loop-r.invariant ∙ ap (over (take c.args.off.now.p (map s c.args.universe.now)) (map s c.args.f.now)) h
