-- Weights as sums, over the parts of two cubes or the cubes of a list.
use Rattle.std.proofs.Common.{◌≡◌, ℕ, ◌+◌, ◌*◌, ◌^◌, ◌<◌, ◌≤◌, List, [], ◌∷◌, map, length, sym, refl, ap, ◌∙◌, arith}
use lib.Bits.{bit_and}
use lib.Count.{ones}
use Rattle.std.specs.List.{sum_by, zip}
use Rattle.std.proofs.lemmas.List.Sums.{sum_by-cons}
use Rattle.std.proofs.lemmas.Nat.{ones-le, and_le_l}
use Rattle.cubes.specs.Areas.{cubes}
use Rattle.cubes.specs.Cubes.{Cube, Cover}
use Rattle.cubes.proofs.Flat.{length-cubes, map-cubes}
use Rattle.moves.specs.Items.{shared, weighed}

module _ {X : Type 0} (s : X → ℕ) where
  -- the values that two parts share
  abbrev pub both : X × X → ℕ
  both q = ones (bit_and (s q.0) (s q.1))

  pub shared_sum : (xs ys : List X) → shared (map s xs) (map s ys) ≡ sum_by both (zip xs ys)
  unfolding shared
  shared_sum [] ys = refl
  shared_sum (x ∷ xs) [] = refl
  shared_sum (x ∷ xs) (y ∷ ys) = ap (λ n. both (x, y) + n) (shared_sum xs ys) ∙ sym (sum_by-cons both (x, y) (zip xs ys))

  -- the values that the cube c shares with another
  abbrev pub beside : List X → List X → ℕ
  beside c d = shared (map s c) (map s d)

  weighed_sum : (c : List X) (D : List (List X)) → weighed (map s c) (map (map s) D) ≡ sum_by (beside c) D
  unfolding weighed
  weighed_sum c [] = refl
  weighed_sum c (d ∷ D) = ap (λ n. beside c d + n) (weighed_sum c D) ∙ sym (sum_by-cons (beside c) d D)

  pub weighed_cubes : (c : List X) (p n : ℕ) (xs : List X) → weighed (map s c) (cubes p n (map s xs)) ≡ sum_by (beside c) (cubes p n xs)
  weighed_cubes c p n xs = ap (weighed (map s c)) (sym (map-cubes s p n xs)) ∙ weighed_sum c (cubes p n xs)

  module _ (most : ℕ) (below : (x : X) → s x < 2 ^ most) (few : most ≤ 64) where
    -- two parts share at most 64 values
    pub shared_few : (c : List X) (d : Cube) → shared (map s c) d ≤ 64 * length c
    unfolding shared
    shared_few [] d = omega arith
    shared_few (x ∷ c) [] = omega arith
    shared_few (x ∷ c) (b ∷ d) =
        let h = below x in
        let lt : bit_and (s x) b < 2 ^ most = omega (arith, and_le_l (s x) b) in
        omega (arith, shared_few c d, ones-le most (bit_and (s x) b) lt)

    weighed_few : (c : List X) → length c ≤ 16 → (D : Cover) → weighed (map s c) D ≤ 1024 * length D
    unfolding weighed
    weighed_few c h [] = omega arith
    weighed_few c h (d ∷ D) = omega (arith, shared_few c d, weighed_few c h D)

    pub weighed_most : (c : List X) → length c ≤ 16 → (p n : ℕ) (S : List ℕ) → weighed (map s c) (cubes p n S) ≤ 1024 * n
    weighed_most c h p n S = omega (arith, weighed_few c h (cubes p n S), length-cubes p n S)
