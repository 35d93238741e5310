-- The one part in which cubes share no value, step by step, and what it says.
use Rattle.std.proofs.Common.{◌≡◌, ℕ, zero, suc, ◌+◌, ◌-◌, ◌<◌, ◌≤◌, Bool, true, false, cond, not, ◌&&◌, ◌||◌, eqb, ltb, List, [], ◌∷◌, map, length, get_or, take, drop, Some, None, Option, sym, refl, ap, ◌∙◌, arith}
use lib.Bits.{bit_and}
use Rattle.std.specs.List.{zip, list_all, enumerate_from, position_or_len}
use Rattle.std.proofs.lemmas.List.{take_all, drop-map, length-drop, length-map}
use Rattle.std.proofs.lemmas.Bool.Decides.{nat_tests}
use Rattle.parts.specs.Sets.{some}
use Rattle.cubes.specs.Cubes.{Cube, meets}
use Rattle.moves.specs.Widen.{beside}
use Rattle.moves.specs.Expand.{misses}
use Rattle.moves.proofs.Links.{beside_once, meets-misses}
use Rattle.growth.specs.Missed.{only_missed, is_at, Once}

-- ---- the first part found, and whether the cubes meet behind it

-- the two share no value
abbrev pub shares_none : {X : Type 0} → (X → ℕ) → X × X → Bool
shares_none s q = not (some (bit_and (s q.0) (s q.1)))

module _ {X : Type 0} (s : X → ℕ) where
  abbrev first : List X → List X → ℕ
  first xs ys = position_or_len (shares_none s) (zip xs ys)

  abbrev pub answered : ℕ → ℕ → List X → List X → Option ℕ
  answered m k xs ys = cond (meets (drop (k + 1) (map s xs)) (drop (k + 1) (map s ys))) (Some (m + k)) None

  abbrev by_first : ℕ → List X → List X → Option ℕ
  by_first m xs ys = cond (ltb (first xs ys) (length (zip xs ys))) (answered m (first xs ys) xs ys) None

  only_first : (m : ℕ) (xs ys : List X) → length xs ≡ length ys → only_missed m (map s xs) (map s ys) ≡ by_first m xs ys
  only_first m [] ys e = refl
  only_first m (x ∷ xs) [] e = absurd (omega arith)
  only_first m (x ∷ xs) (y ∷ ys) e = by (some (bit_and (s x) (s y))) (only_first (suc m) xs ys (omega arith)) (meets-misses (map s xs) (map s ys) (simp length-map (omega arith)))
    where
      by : (t : Bool) → only_missed (suc m) (map s xs) (map s ys) ≡ by_first (suc m) xs ys → meets (map s xs) (map s ys) ≡ eqb (misses (map s xs) (map s ys)) 0
          → cond t (only_missed (suc m) (map s xs) (map s ys)) (cond (eqb (misses (map s xs) (map s ys)) 0) (Some m) None)
          ≡ (let k : ℕ = cond (not (not t)) (1 + first xs ys) 0 in cond (ltb k (suc (length (zip xs ys)))) (answered m k (x ∷ xs) (y ∷ ys)) None)
      by true h g =
          let k = first xs ys in
          let l : ltb (1 + k) (suc (length (zip xs ys))) ≡ ltb k (length (zip xs ys)) = grind (arith, nat_tests) in
          let d : 1 + k + 1 ≡ suc (k + 1) = omega arith in
          let n : m + (1 + k) ≡ suc m + k = omega arith in
          rw (l, d, n) h
      by false h g =
          let l : ltb 0 (suc (length (zip xs ys))) ≡ true = grind (arith, nat_tests) in
          let n : m + 0 ≡ m = omega arith in
          rw (l, n, g)

  -- what the search for a first answered
  module _ (xs ys : List X) (e : length xs ≡ length ys) (o : Option ℕ) (h : o ≡ cond (ltb (first xs ys) (length (zip xs ys))) (Some (first xs ys)) None) where
    pub only-none : o ≡ None → only_missed 0 (map s xs) (map s ys) ≡ None
    only-none q = only_first 0 xs ys e ∙ by (ltb (first xs ys) (length (zip xs ys))) (sym h ∙ q)
      where
        by : (t : Bool) → cond t (Some (first xs ys)) None ≡ None → cond t (answered 0 (first xs ys) xs ys) None ≡ None
        by true q = cc
        by false q = refl

    pub only-some : (k : ℕ) → o ≡ Some k → only_missed 0 (map s xs) (map s ys) ≡ answered 0 k xs ys
    only-some k q = only_first 0 xs ys e ∙ by (ltb (first xs ys) (length (zip xs ys))) (sym h ∙ q)
      where
        by : (t : Bool) → cond t (Some (first xs ys)) None ≡ Some k → cond t (answered 0 (first xs ys) xs ys) None ≡ answered 0 k xs ys
        by true q = let i : first xs ys ≡ k = cc in rw i
        by false q = cc

-- ---- what was found

not_before : (m j : ℕ) (f r : Cube) → j < m → is_at j (only_missed m f r) ≡ false
not_before m j [] r h = refl
not_before m j (a ∷ f) [] h = refl
not_before m j (a ∷ f) (b ∷ r) h = by (some (bit_and a b)) (eqb (misses f r) 0) (not_before (suc m) j f r (omega arith))
  where
    by : (t u : Bool) → is_at j (only_missed (suc m) f r) ≡ false → is_at j (cond t (only_missed (suc m) f r) (cond u (Some m) None)) ≡ false
    by true u e = e
    by false true e = grind (arith, nat_tests)
    by false false e = refl

none_missed : (k : ℕ) (f r : Cube) → length f ≡ length r → k < length f → misses f r ≡ 0 → some (bit_and (get_or f k 0) (get_or r k 0)) ≡ true
none_missed k [] r e l h = absurd (omega arith)
none_missed k (a ∷ f) [] e l h = absurd (omega arith)
none_missed zero (a ∷ f) (b ∷ r) e l h = by (some (bit_and a b)) h
  where
    by : (t : Bool) → cond t 0 1 + misses f r ≡ 0 → t ≡ true
    by true h = refl
    by false h = absurd (omega arith)
none_missed (suc k) (a ∷ f) (b ∷ r) e l h = none_missed k f r (omega arith) (omega arith) (omega arith)

-- part k is found where they share no value in it, and in no other part either but for that one
only_is : (m k : ℕ) (f r : Cube) → length f ≡ length r → k < length f
    → is_at (m + k) (only_missed m f r) ≡ (not (some (bit_and (get_or f k 0) (get_or r k 0))) && eqb (misses f r) 1)
only_is m k [] r e l = absurd (omega arith)
only_is m k (a ∷ f) [] e l = absurd (omega arith)
only_is m zero (a ∷ f) (b ∷ r) e l = by (some (bit_and a b)) (eqb (misses f r) 0) refl (not_before (suc m) (m + 0) f r (omega arith))
  where
    by : (t u : Bool) → eqb (misses f r) 0 ≡ u → is_at (m + 0) (only_missed (suc m) f r) ≡ false
        → is_at (m + 0) (cond t (only_missed (suc m) f r) (cond u (Some m) None)) ≡ (not t && eqb (cond t 0 1 + misses f r) 1)
    by true u q h = h
    by false true q h = grind (arith, nat_tests)
    by false false q h = grind (arith, nat_tests)
only_is m (suc k) (a ∷ f) (b ∷ r) e l =
    by (some (bit_and a b)) (eqb (misses f r) 0) refl (ap (λ n. is_at n (only_missed (suc m) f r)) (omega arith) ∙ only_is (suc m) k f r (omega arith) (omega arith))
    (none_missed k f r (omega arith) (omega arith))
  where
    here : Bool
    here = some (bit_and (get_or f k 0) (get_or r k 0))

    by : (t u : Bool) → eqb (misses f r) 0 ≡ u → is_at (m + suc k) (only_missed (suc m) f r) ≡ (not here && eqb (misses f r) 1)
        → (misses f r ≡ 0 → here ≡ true)
        → is_at (m + suc k) (cond t (only_missed (suc m) f r) (cond u (Some m) None)) ≡ (not here && eqb (cond t 0 1 + misses f r) 1)
    by true u q h z = h ∙ ap (λ n. not here && eqb n 1) (omega arith)
    by false true q h z = grind (arith, nat_tests, z)
    by false false q h z = grind (arith, nat_tests)

-- of cubes that do not meet, the part found is the one but for which they meet
pub only_beside : (k : ℕ) (f r : Cube) → length f ≡ length r → k < length f → meets f r ≡ false → beside k f r ≡ is_at k (only_missed 0 f r)
only_beside k f r e l h = beside_once k f r e l h ∙ sym (only_is 0 k f r e l) ∙ ap (λ n. is_at n (only_missed 0 f r)) (omega arith)

-- the part found is one of theirs
only_below : (m j : ℕ) (f r : Cube) → only_missed m f r ≡ Some j → j < m + length f
only_below m j [] r e = let z : ◌≡◌ {A = ℕ} 0 1 = cc in absurd (omega arith)
only_below m j (a ∷ f) [] e = let z : ◌≡◌ {A = ℕ} 0 1 = cc in absurd (omega arith)
only_below m j (a ∷ f) (b ∷ r) e = by (some (bit_and a b)) (eqb (misses f r) 0) e (only_below (suc m) j f r)
  where
    by : (t u : Bool) → cond t (only_missed (suc m) f r) (cond u (Some m) None) ≡ Some j → (only_missed (suc m) f r ≡ Some j → j < suc m + length f)
        → j < m + suc (length f)
    by true u e h = omega (arith, h e)
    by false true e h = let q : m ≡ j = cc in omega arith
    by false false e h = let z : ◌≡◌ {A = ℕ} 0 1 = cc in absurd (omega arith)

pub only_once : (f r : Cube) → length f ≡ length r → Once f r (only_missed 0 f r)
only_once f r e = record {
  within = λ k q. omega (arith, only_below 0 k f r q);
  alone = λ k h. ap (λ n. is_at n (only_missed 0 f r)) (omega arith) ∙ only_is 0 k f r e h;
  blocks = λ m k h. only_beside k f r e h m;
}

-- what is left of a cube behind its first parts
pub behind-set : {X : Type 0} (s : X → ℕ) (n : ℕ) (xs : List X) → map s (take (length xs - n) (drop n xs)) ≡ drop n (map s xs)
behind-set s n xs = let h : length (drop n xs) ≤ length xs - n = simp length-drop (omega arith) in ap (map s) (take_all (length xs - n) (drop n xs) h) ∙ sym (drop-map s n xs)

-- ---- cubes that meet in each part but one

-- a part is k, or they share a value in it
abbrev pub passes : {X : Type 0} → (X → ℕ) → ℕ → ℕ × (X × X) → Bool
passes s k q = eqb q.0 k || some (bit_and (s q.1.0) (s q.1.1))

module _ {X : Type 0} (s : X → ℕ) where
  past : (m k : ℕ) (xs ys : List X) → k < m → list_all (passes s k) (enumerate_from m (zip xs ys)) ≡ meets (map s xs) (map s ys)
  past m k [] ys h = refl
  past m k (x ∷ xs) [] h = refl
  past m k (x ∷ xs) (y ∷ ys) h =
      let n : eqb m k ≡ false = grind (arith, nat_tests) in
      rw n (ap (λ b. some (bit_and (s x) (s y)) && b) (past (m + 1) k xs ys (omega arith)))

  upon : (m k : ℕ) (xs ys : List X) → list_all (passes s (m + k)) (enumerate_from m (zip xs ys)) ≡ beside k (map s xs) (map s ys)
  upon m k [] ys = refl
  upon m zero (x ∷ xs) [] = refl
  upon m (suc k) (x ∷ xs) [] = refl
  upon m zero (x ∷ xs) (y ∷ ys) =
      let n : eqb m (m + 0) ≡ true = grind (arith, nat_tests) in
      rw n (past (m + 1) (m + 0) xs ys (omega arith))
  upon m (suc k) (x ∷ xs) (y ∷ ys) =
      let n : eqb m (m + suc k) ≡ false = grind (arith, nat_tests) in
      let l : m + suc k ≡ m + 1 + k = omega arith in
      rw n (ap (λ b. some (bit_and (s x) (s y)) && b) (ap (λ j. list_all (passes s j) (enumerate_from (m + 1) (zip xs ys))) l ∙ upon (m + 1) k xs ys))

  pub beside_all : (k : ℕ) (xs ys : List X) → beside k (map s xs) (map s ys) ≡ list_all (passes s k) (enumerate_from 0 (zip xs ys))
  beside_all k xs ys = let z : 0 + k ≡ k = omega arith in sym (rw z at (upon 0 k xs ys))
