use Rattle.std.proofs.Common.{◌≡◌, ℕ, ◌++◌, ◌*◌, ◌≤◌, map, length, take, drop, Ok, IfOk, sym, refl, ap, ◌∙◌, subst, arith}
use Rattle.std.proofs.lemmas.List.{map-append, take-map, drop-map, length-map, length-take}
use Rattle.cubes.specs.Areas.{cubes}
use Rattle.moves.specs.Calls.{expand}
use Rattle.moves.specs.Sound.{Apart}
use Rattle.table.proofs.Verdicts.{then_ok}
use Rattle.engine.specs.Areas.{areas_verdict}
use Rattle.engine.specs.Calls.{Moved, moved_by, expand_has, expand_needs, expand_verdict}
use Rattle.engine.specs.Foreign.{foreign_verdict}
use Rattle.engine.proofs.Settling.{solution_room, part, whole_stays, whole_list, whole_moved}
use Rattle.engine.proofs.calls.expand_solution.Goals as goal

pub returns : goal.returns
returns g c =
    let s = g.P.Part.set in
    let p = c.args.p in
    let count = c.args.count in
    let us = map s c.args.universe.now in
    let off = map s c.args.off.now in
    let A = c.args.solution.now in
    let S = map s A in
    let K = c.args.cards.now in
    let m : ℕ = count * p in
    let R = cubes p c.args.offs off in
    let C = cubes p count S in
    let B = g.O.Order.before c.args.order.now in
    let U = take p us in
    let E = expand B U R C in
    let d = c.default.ensures in
    let e = c.default-2.ensures in
    let areas : Ok tt ≡ areas_verdict (expand_has p us off S K) (expand_needs p c.args.offs count) =
    c.in_ok-check_areas.ensures ∙ rw (length-map c.args.universe.now s, length-map c.args.off.now s, length-map A s, c.area_length.ensures, d.1.0, d.1.1.1.1.0, d.1.1.1.1.1, e.1.0, e.1.1.1.1.0, e.1.1.1.1.1) in
    let room = solution_room p (length S) (length K) (expand_has p us off S K) (expand_needs p c.args.offs count) c.requires.some refl (sym areas) in
    let beside : length (take count K) ≡ count = simp length-take (omega (arith, room.1)) in
    let X = c.expand_areas.new.cubes in
    let r = c.expand_areas.result in
    let made = c.expand_areas.ensures in
    let long : length (take m A) ≡ m = simp length-take (omega (arith, room.0, length-map A s)) in
    let whole_size : length X ≡ m = omega (arith, long, c.expand_areas.auto.cubes) in
    let size : length (map s X) ≡ m = omega (arith, whole_size, length-map X s) in
    let half : map s (take m A) ≡ take m S = sym (take-map s m A) in
    let same : cubes p (length (take count K)) (map s (take m A)) ≡ C = rw (beside, half) (part p count S) in
    let fewer : IfOk r (λ n. n ≤ count) = subst (λ k. IfOk r (λ n. n ≤ k)) beside made.fewer in
    let list : IfOk r (λ n. cubes p n (map s X) ≡ E) = subst (λ D. IfOk r (λ n. cubes p n (map s X) ≡ expand B U R D)) same made.list in
    let left : ◌≡◌ {A = Moved} (record { answer = r; solution = map s X; cards = c.expand_areas.new.cards }) (moved_by (foreign_verdict 0 R C) p count E (take m S) (take count K)) =
    made.leaves ∙ rw (beside, half) (ap (λ D. moved_by (foreign_verdict 0 R D) p count (expand B U R D) (take m S) (take count K)) (part p count S)) in
    let all : expand_verdict p c.args.offs count us off S K ≡ foreign_verdict 0 R C = then_ok _ _ (sym areas) in
    let whole : map s (X ++ drop m A) ≡ map s X ++ drop m S = map-append s X (drop m A) ∙ ap (λ l. map s X ++ l) (sym (drop-map s m A)) in
    record {
      leaves = rw whole (whole_moved p count E S (map s X) K c.expand_areas.new.cards room.0 size r (foreign_verdict 0 R C) room.1 fewer list left ∙ ap (λ v. moved_by v p count E S K) (sym all));
      stays = whole_stays m A X r whole_size made.stays;
      list = subst (λ l. IfOk r (λ n. cubes p n l ≡ E)) (sym whole) (whole_list p count E S (map s X) K c.expand_areas.new.cards room.0 size r fewer list);
      apart = subst (λ D. IfOk r (λ n. Apart R D)) same made.apart;
      fewer = fewer;
    }
