-- A list of cubes that is read one after the other.
use Rattle.std.proofs.Common.{◌≡◌, ℕ, ◌+◌, ◌<◌, ◌≤◌, List, [], ◌∷◌, map, length, get_or, drop, sym, ap, ◌∙◌, arith}
use Rattle.std.proofs.lemmas.List.{length-drop, length-take, drop_more}
use Rattle.cubes.specs.Areas.{cube_at, cubes}
use Rattle.cubes.proofs.Areas.{length-cubes, get_or-cubes, map-cube_at}

-- from place i on the cube c is next, and E is left behind it
module _ {X : Type 0} (p n : ℕ) (xs : List X) (i : ℕ) (c : List X) (E : List (List X)) (next : drop i (cubes p n xs) ≡ c ∷ E) where
  pub below : i < n
  below = omega (arith, length-drop i (cubes p n xs), length-cubes p n xs, ap length next)

  both : get_or (cubes p n xs) i [] ∷ drop (i + 1) (cubes p n xs) ≡ c ∷ E
  both = let h : i < length (cubes p n xs) = omega (arith, below, length-cubes p n xs) in sym (drop_more (cubes p n xs) i [] h) ∙ next

  pub cube_is : cube_at p i xs ≡ c
  cube_is = let h = both in let e : get_or (cubes p n xs) i [] ≡ c = cc in sym (get_or-cubes p n i xs below) ∙ e

  pub left_is : drop (i + 1) (cubes p n xs) ≡ E
  left_is = let h = both in cc

  -- no cube has more parts
  pub cube-few : length c ≤ p
  cube-few = let e : length (cube_at p i xs) ≤ p = simp length-take (omega arith) in omega (arith, e, ap length cube_is)

  -- its sets are those of the cube at place i
  pub sets_is : (s : X → ℕ) → get_or (cubes p n (map s xs)) i [] ≡ map s c
  sets_is s = get_or-cubes p n i (map s xs) below ∙ sym (map-cube_at s p i xs) ∙ ap (map s) cube_is

pub read_all : {X : Type 0} (p n : ℕ) (xs : List X) (i : ℕ) → drop i (cubes p n xs) ≡ [] → n ≤ i
read_all p n xs i e = omega (arith, length-drop i (cubes p n xs), length-cubes p n xs, ap length e)
