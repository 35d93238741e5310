use Rattle.std.proofs.Common.{◌≡◌, ◌+◌, ◌*◌, ◌<◌, ◌≤◌, false, map, length, take, drop, suc, get_or, sym, ap, ◌∙◌, subst, arith}
use Rattle.std.proofs.lemmas.List.{length-map}
use Rattle.cubes.specs.Areas.{cube_at, cubes, put_at}
use Rattle.cubes.specs.Lists.{sets_of}
use Rattle.cubes.specs.Cubes.{Wide}
use Rattle.cubes.proofs.Areas.{place_below, length-cube_at, length-cubes, get_or-cubes, wide_cubes}
use Rattle.moves.specs.Expand.{expanding, grown}
use Rattle.growth.specs.Others.{others}
use Rattle.moves.specs.Items.{no_item, cubes_of}
use Rattle.moves.specs.Sound.{Apart}
use Rattle.moves.specs.Widen.{touches}
use Rattle.tending.specs.Items.{items_of, only_at}
use Rattle.tending.specs.Solutions.{items, left}
use Rattle.tending.proofs.Places.{places_within, cubes_items}
use Rattle.tending.proofs.Steps.{stays_behind}
use Rattle.engine.proofs.Grown.{apart-at, grown_items, grown-apart}
use Rattle.engine.proofs.expand.expand_one.Goals as goal

pub grow-requires-clause-apart : goal.grow-requires-clause-apart
grow-requires-clause-apart g c =
    let s = g.P.Part.set in
    let V = c.args.solution.now in
    let R = sets_of s c.args.off.now in
    let h : c.args.at < length (left s V) = omega (arith, length-cubes V.p V.n (map s V.cubes.now), c.requires.place) in
    ap (λ m. touches (cube_at m c.args.at (map s V.cubes.now)) R) c.requires.wide ∙ ap (λ f. touches f R) (sym (get_or-cubes V.p V.n c.args.at (map s V.cubes.now) c.requires.place)) ∙ apart-at R (left s V) c.args.at h c.requires.apart

pub returns : goal.returns
returns g c =
    let s = g.P.Part.set in
    let V = c.args.solution.now in
    let p = V.p in
    let n = V.n in
    let at = c.args.at in
    let K = V.cards.now in
    let S = map s V.cubes.now in
    let U = take p (map s c.args.universe.now) in
    let l = c.args.off.now in
    let R = sets_of s l in
    let C = left s V in
    let L = items s V in
    let fits : n * p ≤ length S = omega (arith, length-map V.cubes.now s, places_within p n V.count V.within, V.fits) in
    let beside : n ≤ length K = omega (arith, V.within, V.beside) in
    let listed : l.n * l.p ≤ length (map s l.parts.now) = rw length-map l.fits in
    let wR : Wide p R = subst (λ m. Wide m R) c.requires.wide (wide_cubes l.p l.n (map s l.parts.now) listed) in
    let set = c.grow.ensures.sets ∙ ap (λ m. put_at m at (grown (take m (map s c.args.universe.now)) R (cube_at m at S) (others at (cubes m n S))) S) c.requires.wide in
    let h : at < length C = omega (arith, length-cubes p n S, c.requires.place) in
    let t : touches (cube_at p at S) R ≡ false = ap (λ f. touches f R) (sym (get_or-cubes p n at S c.requires.place)) ∙ apart-at R C at h c.requires.apart in
    let below = place_below at n p c.requires.place in
    let size : length (cube_at p at S) ≡ p = length-cube_at p at S (omega arith) in
    let W = c.remove_covered.new.self in
    let all : items s W ≡ expanding U R (take at L) (get_or L at no_item) (drop (suc at) L) =
    c.remove_covered.ensures.items ∙ ap (λ Y. only_at at (items_of p n Y K)) set ∙ grown_items p n S K fits beside U R at c.requires.place wR t size in
    let a = c.remove_covered.ensures.areas in
    let b = c.remove_covered.ensures.behind in
    let grown_stays : drop (at * p + p) c.grow.new.solution ≡ drop (at * p + p) V.cubes.now = subst (λ m. drop (at * m + m) c.grow.new.solution ≡ drop (at * m + m) V.cubes.now) c.requires.wide c.grow.ensures.behind in
    record {
      items = all;
      apart = subst (Apart R) (sym (sym (cubes_items W.p W.n (map s W.cubes.now) W.cards.now) ∙ ap cubes_of all)) (grown-apart p n S K fits beside U R at c.requires.place wR c.requires.apart);
      areas = record { cubes = a.cubes; cards = a.cards; parts = omega (arith, a.parts, c.grow.auto.solution); length = a.length; p = a.p; count = a.count; fewer = a.fewer };
      behind = record { cubes = b.cubes ∙ stays_behind (at * p + p) (n * p) c.grow.new.solution V.cubes.now below grown_stays; cards = b.cards };
    }
