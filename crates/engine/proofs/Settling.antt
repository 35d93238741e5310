-- What the end of a call leaves: the list in the first cubes of the solution, empty parts behind it, and no cards.
use Rattle.std.proofs.Common.{◌≡◌, ℕ, ◌+◌, ◌-◌, ◌*◌, ◌≤◌, List, ◌++◌, map, length, take, drop, replicate, false, Ok, Err, Result, IfOk, is_ok, if◌then◌else◌, sym, refl, ap, ◌∙◌, subst, ap₂, arith}
use Rattle.std.proofs.lemmas.List.{append-nil, append_assoc, drop_all, drop_at, drop-append-le, take-append-drop, take-append-le, take-take, length-append, length-map, length-take, length-replicate}
use Rattle.faults.specs.declared.Cause.{Cause}
use Rattle.cubes.specs.Areas.{cubes, flat, overlay}
use Rattle.cubes.specs.Cubes.{Cover}
use Rattle.cubes.proofs.Areas.{cubes_front}
use Rattle.cubes.proofs.Flat.{length-cubes, wide_cubes, length-flat, cubes-flat}
use Rattle.table.specs.declared.card.Card.{Card}
use Rattle.table.specs.Cards.{blank, area_length}
use Rattle.table.specs.Filling.{Verdict, area_verdict}
use Rattle.table.proofs.Verdicts.{then_both, area_passed, fits_area}
use Rattle.tending.proofs.Places.{places_within, places_between}
use Rattle.table.specs.declared.areas.Lengths.{Lengths}
use Rattle.engine.specs.Areas.{areas_verdict, settled, blanked}
use Rattle.engine.specs.Calls.{Moved, moved_by}

-- an area that is written over as far as it goes
pub overlay-all : {X : Type 0} (ys xs : List X) → length ys ≡ length xs → overlay ys xs ≡ ys
overlay-all ys xs e = ap (λ l. ys ++ l) (drop_all (length ys) xs (omega arith)) ∙ append-nil ys

-- xs has the solution's cubes before the end of the call, and T what they are then
module _ {X : Type 0} (s : X → ℕ) (p left count : ℕ) (E : Cover) (xs ys T : List X) (h : left ≤ count) (exact : length xs ≡ count * p)
    (list : cubes p left (map s xs) ≡ E) (settling : map s ys ≡ flat (cubes p left (map s xs)) ++ replicate ((count - left) * p) 0) (end : T ≡ ys) where
  within : left * p ≤ length (map s xs)
  within = omega (arith, exact, places_within p left count h, length-map xs s)

  few : length E ≡ left
  few = ap length (sym list) ∙ length-cubes p left (map s xs)

  area : map s T ≡ flat E ++ replicate ((count - left) * p) 0
  area = ap (map s) end ∙ settling ∙ ap (λ (D : Cover). flat D ++ replicate ((count - left) * p) 0) list

  -- the cubes that are left are those of the list
  pub settled_list : cubes p left (map s T) ≡ E
  settled_list =
      ap (cubes p left) (ap (map s) end ∙ settling)
      ∙ cubes-flat p left (cubes p left (map s xs)) (replicate ((count - left) * p) 0) (wide_cubes p left (map s xs) within) (length-cubes p left (map s xs))
      ∙ list

  -- the answer and the areas, where no cube was foreign
  pub moved_settled : (v : Verdict) (A : List ℕ) (K L M : List Card) → v ≡ Ok tt → length A ≡ count * p → length K ≡ count → L ≡ replicate count blank → M ≡ L
      → ◌≡◌ {A = Moved} (record { answer = Ok left; solution = map s T; cards = M }) (moved_by v p count E A K)
  moved_settled v A K L M passed long beside blanking last =
      let Z : List ℕ = flat E ++ replicate ((count - length E) * p) 0 in
      let front : length (flat E) ≡ left * p =
      ap (λ (D : Cover). length (flat D)) (sym list) ∙ length-flat p (cubes p left (map s xs)) (wide_cubes p left (map s xs) within) ∙ ap (λ n. n * p) (length-cubes p left (map s xs)) in
      let size : length Z ≡ length A =
      length-append (flat E) (replicate ((count - length E) * p) 0)
      ∙ ap₂ (λ (m n : ℕ). m + n) front (length-replicate {A = ℕ} ((count - length E) * p) 0 ∙ ap (λ n. (count - n) * p) few)
      ∙ omega (arith, places_between p left count h, places_within p left count h, long) in
      let all : map s T ≡ settled p count E A = area ∙ ap (λ n. flat E ++ replicate ((count - n) * p) 0) (sym few) ∙ sym (overlay-all Z A size) in
      let none : M ≡ blanked count K = last ∙ blanking ∙ sym (overlay-all (replicate count blank) K (length-replicate count blank ∙ sym beside)) in
      let left_is : left ≡ length E = sym few in
      rw passed (cc)

-- ---- the call works on the first cubes of an area

-- a solution area that passed has the places, and as many cards
pub solution_room : (p parts beside : ℕ) (has needs : Lengths) → 1 ≤ p → has.solution ≡ area_length p parts beside → areas_verdict has needs ≡ Ok tt
    → (needs.solution * p ≤ parts) × (needs.solution ≤ beside)
solution_room p parts beside has needs h e v =
    let (one, v2) = then_both (area_verdict 1 has.universe needs.universe) _ v in
    let (two, v3) = then_both (area_verdict 2 has.table needs.table) _ v2 in
    let (three, v4) = then_both (area_verdict 3 has.off needs.off) _ v3 in
    let (four, v5) = then_both (area_verdict 4 has.solution needs.solution) _ v4 in
    let q = area_passed 4 has.solution needs.solution four in
    fits_area p parts beside needs.solution h (omega (arith, q, e))

pub part : (p count : ℕ) (S : List ℕ) → cubes p count (take (count * p) S) ≡ cubes p count S
part p count S = cubes_front p count (take (count * p) S) S (take-take (count * p) (count * p) S (omega arith))

-- what is written over the part is written over the whole
over : {X : Type 0} (m : ℕ) (S Z : List X) → m ≤ length S → length Z ≤ m → overlay Z (take m S) ++ drop m S ≡ overlay Z S
over m S Z room h =
    let front : length (take m S) ≡ m = simp length-take (omega arith) in
    append_assoc Z (drop (length Z) (take m S)) (drop m S)
    ∙ ap (λ l. Z ++ l) (sym (drop-append-le (length Z) (take m S) (drop m S) (omega arith)) ∙ ap (drop (length Z)) (take-append-drop m S))

pub whole_stays : {X : Type 0} (m : ℕ) (A T : List X) (r : Result ℕ Cause) → length T ≡ m → (is_ok r ≡ false → T ≡ take m A)
    → drop (if is_ok r then m else 0) (T ++ drop m A) ≡ drop (if is_ok r then m else 0) A
whole_stays m A T (Ok n) size h = drop_at T (drop m A) m size
whole_stays m A T (Err c) size h = ap (λ l. l ++ drop m A) (h refl) ∙ take-append-drop m A

-- S was the area and K its cards; T and N are what the part of them holds then that the call works on
module _ (p count : ℕ) (E : Cover) (S T : List ℕ) (K N : List Card) (room : count * p ≤ length S) (size : length T ≡ count * p) where
  abbrev others : List ℕ
  others = drop (count * p) S

  pub whole_list : (r : Result ℕ Cause) → IfOk r (λ n. n ≤ count) → IfOk r (λ n. cubes p n T ≡ E) → IfOk r (λ n. cubes p n (T ++ others) ≡ E)
  whole_list (Ok n) h e = let le : n * p ≤ length T = omega (arith, size, places_within p n count h) in cubes_front p n (T ++ others) T (take-append-le (n * p) T others le) ∙ e
  whole_list (Err c) h e = e

  pub whole_moved : (r : Result ℕ Cause) (v : Verdict) → count ≤ length K → IfOk r (λ n. n ≤ count) → IfOk r (λ n. cubes p n T ≡ E)
      → ◌≡◌ {A = Moved} (record { answer = r; solution = T; cards = N }) (moved_by v p count E (take (count * p) S) (take count K))
      → ◌≡◌ {A = Moved} (record { answer = r; solution = T ++ others; cards = N ++ drop count K }) (moved_by v p count E S K)
  whole_moved r (Ok x) beside few list e =
      let a : r ≡ Ok (length E) = ap (λ (M : Moved). M.answer) e in
      let n : ℕ = length E in
      let le : n ≤ count = subst (λ q. IfOk q (λ k. k ≤ count)) a few in
      let cubes_are : cubes p n T ≡ E = subst (λ q. IfOk q (λ k. cubes p k T ≡ E)) a list in
      let wide = wide_cubes p n T (omega (arith, size, places_within p n count le)) in
      let front : length (flat E) ≡ n * p = ap (λ (D : Cover). length (flat D)) (sym cubes_are) ∙ length-flat p (cubes p n T) wide ∙ ap (λ k. k * p) (length-cubes p n T) in
      let Z : List ℕ = flat E ++ replicate ((count - n) * p) 0 in
      let fits : length Z ≤ count * p =
      omega (arith, length-append (flat E) (replicate ((count - n) * p) 0), front, length-replicate {A = ℕ} ((count - n) * p) 0, places_between p n count le, places_within p n count le) in
      let area : T ++ others ≡ settled p count E S = ap (λ (M : Moved). M.solution ++ others) e ∙ over (count * p) S Z room fits in
      let cards : N ++ drop count K ≡ blanked count K =
      ap (λ (M : Moved). M.cards ++ drop count K) e ∙ over count K (replicate count blank) beside (omega (arith, length-replicate count blank)) in
      cc
  whole_moved r (Err c) beside few list e =
      let a : r ≡ Err c = ap (λ (M : Moved). M.answer) e in
      let area : T ++ others ≡ S = ap (λ (M : Moved). M.solution ++ others) e ∙ take-append-drop (count * p) S in
      let cards : N ++ drop count K ≡ K = ap (λ (M : Moved). M.cards ++ drop count K) e ∙ take-append-drop count K in
      cc
