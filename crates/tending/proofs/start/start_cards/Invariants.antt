use Rattle.std.proofs.Common.{◌≡◌, ◌≤◌, map, take, drop}
use Rattle.cubes.specs.Areas.{cubes}
use Rattle.moves.specs.Items.{started}
use Rattle.tending.specs.Items.{cards_of}
use Rattle.tending.proofs.start.start_cards.Given as goal

abbrev pub invariant-loop-i : goal.invariant-loop-i
invariant-loop-i g l =
    let t = l.cube-iterator in
    record {
      few : l.i ≤ l.n;
      left : cubes t.p t.n t.rest.now ≡ drop l.i (cubes l.p l.n l.solution);
      written : take l.i l.cards ≡ cards_of (take l.i (started (cubes l.p l.n (map g.P.Part.set l.solution))));
      behind : drop l.i l.cards ≡ drop l.i l.initial.cards;
    }
