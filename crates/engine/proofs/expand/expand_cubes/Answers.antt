use Rattle.std.proofs.Common.{◌≡◌, suc, ◌*◌, ◌≤◌, map, take, drop, get_or, Some, None, sym, ap, ◌∙◌, subst, arith}
use Rattle.cubes.specs.Lists.{sets_of}
use Rattle.cubes.proofs.Areas.{length-cubes}
use Rattle.moves.specs.Expand.{expanding}
use Rattle.moves.specs.Items.{no_item, cubes_of, started, first_of, waits}
use Rattle.moves.specs.Sound.{Apart}
use Rattle.moves.proofs.Expanded.{expanding_less}
use Rattle.moves.proofs.Taking.{tally, cubes-carded, waits-started}
use Rattle.tending.specs.Solutions.{items, left}
use Rattle.tending.proofs.Places.{length_items, cubes_items}
use Rattle.tending.proofs.Steps.{both_steps, both_behind}
use Rattle.engine.proofs.Turns.{any, turned_none, turned_some, turned_all, in_list, fewer_wait, started_behind, expand_is}
use Rattle.engine.proofs.expand.expand_cubes.Goals as goal

pub loop-at-init : goal.loop-at-init
loop-at-init g c =
    let s = g.P.Part.set in
    let V = c.args.solution.now in
    let T = c.start.new.self in
    let U = take V.p (map s c.args.universe.now) in
    let R = sets_of s c.args.off.now in
    let C = left s V in
    let most : tally waits (started C) ≤ V.n = omega (arith, waits-started C, length-cubes V.p V.n (map s V.cubes.now)) in
    let same : left s T ≡ C = sym (cubes_items T.p T.n (map s T.cubes.now) T.cards.now) ∙ ap cubes_of c.start.ensures.items ∙ cubes-carded C 0 C in
    record {
      turned = rw c.start.ensures.items (turned_none (g.O.Order.before c.args.order.now) (expanding U R) (expanding_less U R any) V.n (started C) most);
      apart = subst (Apart R) (sym same) c.requires.apart;
      areas = c.start.ensures.areas;
      behind = record {
        cubes = ap (drop (V.n * V.p)) c.start.ensures.cubes;
        cards = ap (drop V.n) c.start.ensures.cards ∙ started_behind V.n C V.cards.now (length-cubes V.p V.n (map s V.cubes.now));
      };
    }

pub expand_one-requires-clause-place : goal.expand_one-requires-clause-place
expand_one-requires-clause-place g c =
    let s = g.P.Part.set in
    let V = c.loop-at.solution in
    let R = sets_of s c.args.off.now in
    let U = take V.p (map s c.args.universe.now) in
    let B = g.O.Order.before c.args.order.now in
    let first : first_of waits B (items s V) ≡ Some c.in-Some.at = sym c.first_left.ensures ∙ c.in-Some.is in
    omega (arith, in_list B (expanding U R) (expanding_less U R any) (items s V) c.in-Some.at (items s V) first, length_items V.p V.n (map s V.cubes.now) V.cards.now)

pub loop-at-smaller : goal.loop-at-smaller
loop-at-smaller g c =
    let s = g.P.Part.set in
    let V = c.loop-at.solution in
    let U = take V.p (map s c.args.universe.now) in
    let R = sets_of s c.args.off.now in
    let B = g.O.Order.before c.args.order.now in
    let first : first_of waits B (items s V) ≡ Some c.in-Some.at = sym c.first_left.ensures ∙ c.in-Some.is in
    fewer_wait B (expanding U R) (expanding_less U R any) (items s V) c.in-Some.at (items s c.expand_one.new.solution) first c.expand_one.ensures.items

pub loop-at-preserved : goal.loop-at-preserved
loop-at-preserved g c =
    let s = g.P.Part.set in
    let F = c.args.solution.now in
    let V = c.loop-at.solution in
    let W = c.expand_one.new.solution in
    let us = map s c.args.universe.now in
    let at = c.in-Some.at in
    let L = items s V in
    let U = take F.p us in
    let R = sets_of s c.args.off.now in
    let B = g.O.Order.before c.args.order.now in
    let inv = c.loop-at.invariant in
    let first : first_of waits B L ≡ Some at = sym c.first_left.ensures ∙ c.in-Some.is in
    let made : items s W ≡ expanding U R (take at L) (get_or L at no_item) (drop (suc at) L) =
    c.expand_one.ensures.items ∙ ap (λ p. expanding (take p us) R (take at L) (get_or L at no_item) (drop (suc at) L)) inv.areas.p in
    record {
      turned = turned_some B (expanding U R) (expanding_less U R any) L at (items s W) first made F.n (started (left s F)) inv.turned;
      apart = c.expand_one.ensures.apart;
      areas = both_steps F V W inv.areas c.expand_one.ensures.areas;
      behind = both_behind F V W inv.areas inv.behind c.expand_one.ensures.behind;
    }

pub returns-clause-list : goal.returns-clause-list
returns-clause-list g c =
    let s = g.P.Part.set in
    let F = c.args.solution.now in
    let V = c.loop-at.solution in
    let U = take F.p (map s c.args.universe.now) in
    let R = sets_of s c.args.off.now in
    let B = g.O.Order.before c.args.order.now in
    let C = left s F in
    let none : first_of waits B (items s V) ≡ None = sym c.first_left.ensures ∙ c.in_default.is in
    sym (cubes_items V.p V.n (map s V.cubes.now) V.cards.now)
    ∙ ap cubes_of (turned_all B (expanding U R) F.n (started C) (items s V) c.loop-at.invariant.turned none)
    ∙ expand_is B U R F.n C (length-cubes F.p F.n (map s F.cubes.now))
