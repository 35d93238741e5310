use Rattle.std.proofs.Common.{◌≡◌, ◌+◌, ◌<◌, [], map, length, get_or, drop, sym, ap, ◌∙◌, arith}
use Rattle.std.proofs.lemmas.List.{drop-drop, drop-set-lt}
use Rattle.cubes.specs.Areas.{cubes}
use Rattle.cubes.specs.Cubes.{Cube}
use Rattle.cubes.proofs.Areas.{length-cubes}
use Rattle.moves.specs.Items.{weighed}
use Rattle.cubes.proofs.Reading.{below, left_is, cube-few, sets_is, read_all}
use Rattle.tending.specs.Items.{items_of}
use Rattle.tending.proofs.Starts.{start_more, start-all, start_items}
use Rattle.tending.proofs.start.start_cards.Goals as goal

pub weigh-requires-clause-few : goal.weigh-requires-clause-few
weigh-requires-clause-few g c =
    omega (arith, c.requires.few, cube-few c.args.p c.args.n c.args.solution.now c.loop-i.i c.in-Some.cube.now _ (sym c.loop-i.invariant.left ∙ c.in-Some.ensures.steps))

pub bounds-cards-i : goal.bounds-cards-i
bounds-cards-i g c =
    omega (arith, c.requires.beside, below c.args.p c.args.n c.args.solution.now c.loop-i.i c.in-Some.cube.now _ (sym c.loop-i.invariant.left ∙ c.in-Some.ensures.steps))

pub loop-i-preserved : goal.loop-i-preserved
loop-i-preserved g c =
    let p = c.args.p in
    let n = c.args.n in
    let xs = c.args.solution.now in
    let s = g.P.Part.set in
    let i = c.loop-i.i in
    let N = c.loop-i.cards in
    let E = c.args.cards.now in
    let C = cubes p n (map s xs) in
    let made = c.new-cubes.ensures in
    let next = sym c.loop-i.invariant.left ∙ c.in-Some.ensures.steps in
    let h = below p n xs i c.in-Some.cube.now _ next in
    let w : c.weigh.result ≡ weighed (get_or C i []) C =
    c.weigh.ensures.value ∙ rw (made.parts, made.p, made.n) (ap (λ (d : Cube). weighed d C) (sym (sets_is p n xs i c.in-Some.cube.now _ next s))) in
    let in-C : i < length C = omega (arith, h, length-cubes p n (map s xs)) in
    let in-N : i < length N = omega (arith, h, c.requires.beside) in
    record {
      few = omega (arith, h);
      left = sym (left_is p n xs i c.in-Some.cube.now _ next);
      written = rw (c.blank.ensures, w) (start_more C i N in-C in-N c.loop-i.invariant.written);
      behind = drop-set-lt (i + 1) N i _ (omega arith) ∙ sym (drop-drop 1 i N) ∙ ap (drop 1) c.loop-i.invariant.behind ∙ drop-drop 1 i E;
    }

pub returns : goal.returns
returns g c =
    let p = c.args.p in
    let n = c.args.n in
    let S = map g.P.Part.set c.args.solution.now in
    let C = cubes p n S in
    let end = read_all p n c.args.solution.now c.loop-i.i (sym c.loop-i.invariant.left ∙ c.in-None.ensures.steps.0) in
    let e : c.loop-i.i ≡ length C = omega (arith, end, c.loop-i.invariant.few, length-cubes p n S) in
    let inv = rw e at c.loop-i.invariant in
    let cards = start-all C c.loop-i.cards c.args.cards.now inv.written inv.behind in
    record { items = ap (items_of p n S) cards ∙ start_items p n S c.args.cards.now; cards = cards }
