use Rattle.std.proofs.Common.{◌≡◌, ℕ, ◌+◌, ◌-◌, ◌*◌, ◌≤◌, length, get_or, drop, ap, ◌∙◌, arith}
use lib.Seq.{paste}
use Rattle.std.proofs.lemmas.List.{length-drop, drop-set-lt}
use Rattle.cubes.proofs.Areas.{place_below}
use Rattle.table.specs.Cards.{blank}
use Rattle.tending.proofs.Closing.{moved_items}
use Rattle.tending.proofs.Places.{places_within}
use Rattle.tending.proofs.Steps.{paste_behind}
use Rattle.tending.proofs.solution.Solution.move_item.Goals as goal

pub returns-clause-items : goal.returns-clause-items
returns-clause-items g c =
    let S = c.args.self.now in
    let xs = S.cubes.now in
    let from = c.args.from in
    let to = c.args.to in
    let e : from * S.p + S.p - from * S.p ≡ S.p = omega arith in
    let parts : c.copy_within.new.self ≡ paste xs (to * S.p) (drop (from * S.p) xs) S.p = c.copy_within.ensures.after ∙ ap (paste xs (to * S.p) (drop (from * S.p) xs)) e in
    let fits : S.n * S.p ≤ length xs = omega (arith, places_within S.p S.n S.count S.within, S.fits) in
    let beside : S.n ≤ length S.cards.now = omega (arith, S.within, S.beside) in
    rw parts (moved_items g.P.Part.set S.p S.n xs S.cards.now fits beside from to c.requires.source c.requires.place)

pub returns-clause-behind : goal.returns-clause-behind
returns-clause-behind g c =
    let S = c.args.self.now in
    let p = S.p in
    let xs = S.cubes.now in
    let C = S.cards.now in
    let from = c.args.from in
    let to = c.args.to in
    let fits : S.n * p ≤ length xs = omega (arith, places_within p S.n S.count S.within, S.fits) in
    let source = place_below from S.n p c.requires.source in
    let place = place_below to S.n p c.requires.place in
    let k : ℕ = from * p + p - from * p in
    let e : k ≡ p = omega arith in
    let all : k ≤ length (drop (from * p) xs) = simp length-drop (omega arith) in
    record {
      cubes = ap (drop (S.n * p)) c.copy_within.ensures.after ∙ paste_behind xs (to * p) (drop (from * p) xs) k (S.n * p) (omega arith) all (omega arith);
      cards = drop-set-lt S.n C to (get_or C from blank) c.requires.place;
    }
