use Rattle.std.proofs.Common.{◌≡◌, ◌*◌, ◌<◌, ◌≤◌, map, length, get_or, set, sym, ap, ◌∙◌, ap₂, arith}
use Rattle.std.proofs.lemmas.List.{length-map, length-set, drop-set-lt}
use Rattle.cubes.specs.Cubes.{Cube}
use Rattle.cubes.specs.Areas.{cube_at}
use Rattle.moves.specs.Items.{Item, no_item, placed}
use Rattle.table.specs.Cards.{blank}
use Rattle.tending.specs.Items.{item_of, items_of, as_taken, spared_but}
use Rattle.tending.proofs.Places.{places_within, length_items, get_or-items, items_card}
use Rattle.tending.proofs.Spared.{marked_only}
use Rattle.tending.proofs.solution.Solution.remove_covered.Goals as goal

pub returns : goal.returns
returns g c =
    let V = c.args.self.now in
    let p = V.p in
    let n = V.n in
    let at = c.args.at in
    let S = map g.P.Part.set V.cubes.now in
    let C = V.cards.now in
    let L = items_of p n S C in
    let k = as_taken (get_or C at blank) in
    let f = get_or L at no_item in
    let fits : n * p ≤ length S = omega (arith, length-map V.cubes.now g.P.Part.set, places_within p n V.count V.within, V.fits) in
    let beside : n ≤ length C = omega (arith, V.within, V.beside) in
    let in_L : at < length L = omega (arith, length_items p n S C) in
    let is : f ≡ item_of (cube_at p at S) (get_or C at blank) = get_or-items p n at S C c.requires in
    let cube : cube_at p at S ≡ f.cube = ap (λ (x : Item). x.cube) (sym is) in
    let card : item_of (cube_at p at S) k ≡ placed f f.cube = ap (λ (x : Item). placed x x.cube) (sym is) in
    let marked : items_of p n S (set C at k) ≡ set L at (placed f f.cube) = items_card p n S C fits beside at c.requires k ∙ ap (set L at) card in
    let a = c.close_up.ensures.areas in
    let b = c.close_up.ensures.behind in
    record {
      items = c.close_up.ensures.items ∙ ap₂ (λ (G : Cube) (M : _). spared_but G at M) cube marked ∙ marked_only at L in_L;
      areas = record { cubes = a.cubes; cards = a.cards; parts = a.parts; length = a.length ∙ length-set C at k; p = a.p; count = a.count; fewer = a.fewer };
      behind = record { cubes = b.cubes; cards = b.cards ∙ drop-set-lt n C at k c.requires };
    }
