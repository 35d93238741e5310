use Rattle.std.proofs.Common.{ℕ, ◌+◌, ◌-◌, ◌*◌, ◌≤◌, length, drop, ap, ◌∙◌, arith}
use Rattle.std.proofs.lemmas.List.{length-drop}
use Rattle.cubes.proofs.Areas.{next_place, place_below}
use Rattle.tending.proofs.Closing.{taken_out}
use Rattle.tending.proofs.Places.{places_within}
use Rattle.tending.proofs.Steps.{paste_behind}
use Rattle.tending.proofs.solution.Solution.take_out.Goals as goal

pub returns-clause-items : goal.returns-clause-items
returns-clause-items g c =
    let S = c.args.self.now in
    let fits : S.n * S.p ≤ length S.cubes.now = omega (arith, places_within S.p S.n S.count S.within, S.fits) in
    let beside : S.n ≤ length S.cards.now = omega (arith, S.within, S.beside) in
    rw (c.copy_within.ensures.after, c.copy_within-2.ensures.after) (taken_out g.P.Part.set S.p S.n c.args.i S.cubes.now S.cards.now fits beside c.requires)

pub returns-clause-behind : goal.returns-clause-behind
returns-clause-behind g c =
    let S = c.args.self.now in
    let p = S.p in
    let n = S.n in
    let i = c.args.i in
    let xs = drop ((i + 1) * p) S.cubes.now in
    let C = drop (i + 1) S.cards.now in
    let k : ℕ = n * p - (i + 1) * p in
    let l : ℕ = n - (i + 1) in
    let fits : n * p ≤ length S.cubes.now = omega (arith, places_within p n S.count S.within, S.fits) in
    let next = next_place i p in
    let below = place_below i n p c.requires in
    let beside : n ≤ length S.cards.now = omega (arith, S.within, S.beside) in
    let parts : k ≤ length xs = simp length-drop (omega arith) in
    let cards : l ≤ length C = simp length-drop (omega arith) in
    record {
      cubes = ap (drop (n * p)) c.copy_within.ensures.after ∙ paste_behind S.cubes.now (i * p) xs k (n * p) (omega arith) parts (omega arith);
      cards = ap (drop n) c.copy_within-2.ensures.after ∙ paste_behind S.cards.now i C l n (omega arith) cards (omega arith);
    }
