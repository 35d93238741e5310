-- The walk of Open: where it starts, and the part of the work area that it is lent.
use Rattle.std.proofs.Common.{◌≡◌, ℕ, ◌+◌, ◌-◌, ◌*◌, ◌/◌, ◌≤◌, min, List, ◌++◌, map, length, take, drop, replicate, sym, ap, ◌∙◌, mul-le-mul_right, add-mul, one-mul, le-div_iff_mul-le, arith}
use Rattle.std.proofs.lemmas.List.{length-map, length-replicate, map-append, drop-map, take-map, length-take-le}
use Rattle.cubes.specs.Areas.{cube_at, put_at, overlay}
use Rattle.cubes.proofs.Areas.{map-put, cube_at-put}
use Rattle.table.specs.Cards.{area_length}

pub first_fits : (p m : ℕ) → p ≤ m → 0 * p + p ≤ m
first_fits p m h = omega arith

-- the first cube of the work area is the universe
pub put_first : {X : Type 0} (s : X → ℕ) (p : ℕ) (W U : List X) → p ≤ length W → p ≤ length U → cube_at p 0 (map s (put_at p 0 (take p U) W)) ≡ take p (map s U)
put_first s p W U h l =
    let size : length (map s (take p U)) ≡ p = length-map (take p U) s ∙ length-take-le p U l in
    let room : 0 * p + p ≤ length (map s W) = rw length-map (first_fits p (length W) h) in
    ap (cube_at p 0) (map-put s p 0 (take p U) W) ∙ cube_at-put p 0 (map s (take p U)) (map s W) room size ∙ sym (take-map s p U)

-- a piece more than fits one place fits one
pub one_fits : (p n m : ℕ) → (1 + (p - 1) * n) * p ≤ m → p ≤ m
one_fits p n m h = omega (arith, add-mul 1 ((p - 1) * n) p, one-mul p)

-- cubes that fit an area's length fit its parts
pub area_fits : (p parts beside n : ℕ) → 1 ≤ p → n ≤ area_length p parts beside → n * p ≤ area_length p parts beside * p
area_fits p parts beside n h l = mul-le-mul_right {m = n} {n = area_length p parts beside} p l

-- a part from the start that was cleared
pub cleared_part : {X : Type 0} (s : X → ℕ) (k n : ℕ) (xs ys : List X) → k ≡ n → map s ys ≡ replicate n 0 → map s (ys ++ drop k xs) ≡ overlay (replicate n 0) (map s xs)
cleared_part s k n xs ys e f =
    map-append s ys (drop k xs)
    ∙ ap (λ A. A ++ map s (drop k xs)) f
    ∙ ap (λ D. replicate n 0 ++ D) (sym (drop-map s k xs) ∙ ap (λ m. drop m (map s xs)) (e ∙ sym (length-replicate n 0)))

pub most_fits : (p parts most : ℕ) → 1 ≤ p → most ≡ min 4096 (parts / p) → most * p ≤ parts
most_fits p parts most h e = (le-div_iff_mul-le h).0 (omega arith)
