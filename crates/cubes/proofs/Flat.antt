-- Cubes lying one after another: more on areas, and what a map of the parts does to them.
use Rattle.std.proofs.Common.{◌≡◌, ℕ, zero, suc, ◌≤◌, List, [], ◌∷◌, ◌++◌, map, length, drop, sym, refl, ap, ◌∙◌, arith}
use Rattle.std.specs.List.{AllByRecursion}
use Rattle.std.proofs.lemmas.List.{append_assoc, map-append, take-map, drop-map, length-drop, length-append, length-map}
use Rattle.cubes.specs.Areas.{cubes, flat, overlay}
use Rattle.cubes.proofs.Areas as areas
pub use Rattle.cubes.proofs.Areas.{length-cubes, wide_cubes, get_or-cubes, cubes_more, cubes_front, cubes-put, length-flat, flat-cubes, overlay-cubes, map-cube_at, map-put as map-put_at}

-- ---- cubes one after another

pub flat-++ : {X : Type 0} (C D : List (List X)) → flat (C ++ D) ≡ flat C ++ flat D
flat-++ [] D = refl
flat-++ (c ∷ C) D = ap (λ l. c ++ l) (flat-++ C D) ∙ sym (append_assoc c (flat C) (flat D))

-- the cubes are found again
pub cubes-flat : {X : Type 0} (p n : ℕ) (C : List (List X)) (xs : List X) → AllByRecursion (λ (c : List X). length c ≡ p) C → length C ≡ n → cubes p n (flat C ++ xs) ≡ C
cubes-flat p n C xs w e = rw (← e) (areas.cubes-flat p C xs w)

-- ---- an area with cubes written from its start

pub length-overlay : {X : Type 0} (ys xs : List X) → length ys ≤ length xs → length (overlay ys xs) ≡ length xs
length-overlay ys xs h = simp (length-append, length-drop) (omega arith)

pub cubes-overlay : {X : Type 0} (p : ℕ) (C : List (List X)) (xs : List X) → AllByRecursion (λ (c : List X). length c ≡ p) C → cubes p (length C) (overlay (flat C) xs) ≡ C
cubes-overlay p C xs w = areas.cubes-flat p C (drop (length (flat C)) xs) w

-- ---- what a map of the parts does

pub map-cubes : {X Y : Type 0} (s : X → Y) (p n : ℕ) (xs : List X) → map (map s) (cubes p n xs) ≡ cubes p n (map s xs)
map-cubes s p zero xs = refl
map-cubes s p (suc n) xs = rw (map-cubes s p n (drop p xs), take-map, drop-map)

pub map-overlay : {X Y : Type 0} (s : X → Y) (ys xs : List X) → map s (overlay ys xs) ≡ overlay (map s ys) (map s xs)
map-overlay s ys xs = simp (map-append, drop-map, length-map)

pub map-flat : {X Y : Type 0} (s : X → Y) (C : List (List X)) → map s (flat C) ≡ flat (map (map s) C)
map-flat s [] = refl
map-flat s (c ∷ C) = map-append s c (flat C) ∙ ap (λ l. map s c ++ l) (map-flat s C)
