-- The weights of the parts, counted from one cube after another.
use Rattle.std.proofs.Common.{◌≡◌, ℕ, zero, suc, ◌+◌, ◌%◌, ◌^◌, ◌<◌, ◌≤◌, Bool, true, false, cond, ◌&&◌, eqb, ◌≢◌, List, [], ◌∷◌, ◌++◌, map, length, get_or, set, sym, refl, ap, ◌∙◌, ap₂, arith, below_more}
use Rattle.std.specs.List.{zip, list_all}
use Rattle.std.proofs.lemmas.List.{length-append, length-take, length-drop, take_all, drop_all, get_or-set_same, get_or-set_other}
use Rattle.std.proofs.lemmas.Bool.Decides.{nat_tests}
use Rattle.parts.specs.Sets.{minus}
use Rattle.cubes.specs.Areas.{cube_at, cubes}
use Rattle.cubes.specs.Cubes.{Cube, Cover, covers}
use Rattle.cubes.proofs.Areas.{cubes_more, length-cubes}
use Rattle.moves.specs.Expand.{part_weight}
use Rattle.growth.specs.Others.{others}
use Rattle.growth.proofs.Blocked.{minus_low}

-- ---- a cube within words

-- the values of a word past the most do not matter
pub within_all : {X Y : Type 0} (s : X → ℕ) (word : Y → ℕ) (most : ℕ) → ((x : X) → s x < 2 ^ most) → (xs : List X) (ws : List Y)
    → covers (map word ws) (map s xs) ≡ list_all (λ (q : X × Y). eqb (minus (s q.0) (word q.1 % 2 ^ most)) 0) (zip xs ws)
within_all s word most h [] [] = refl
within_all s word most h [] (w ∷ ws) = refl
within_all s word most h (x ∷ xs) [] = refl
within_all s word most h (x ∷ xs) (w ∷ ws) = ap₂ (λ (n : ℕ) (b : Bool). eqb n 0 && b) (sym (minus_low most (s x) (word w) (h x))) (within_all s word most h xs ws)

-- ---- cubes one after another

module _ (o f : Cube) (k : ℕ) where
  -- what a cube adds
  abbrev pub adds : Cube → ℕ
  adds c = cond (covers o c && eqb (minus (get_or c k 0) (get_or f k 0)) 0) 1 0

  pub weight-append : (C D : Cover) → part_weight o f (C ++ D) k ≡ part_weight o f C k + part_weight o f D k
  weight-append [] D = omega arith
  weight-append (c ∷ C) D = omega (arith, weight-append C D)

  pub weight_push : (C : Cover) (c : Cube) → part_weight o f (C ++ c ∷ []) k ≡ part_weight o f C k + adds c
  weight_push C c = weight-append C (c ∷ []) ∙ omega arith

  adds_le : (t : Bool) → cond t 1 0 ≤ 1
  adds_le true = omega arith
  adds_le false = omega arith

  pub weight_le : (C : Cover) → part_weight o f C k ≤ length C
  weight_le [] = omega arith
  weight_le (c ∷ C) = omega (arith, weight_le C, adds_le (covers o c && eqb (minus (get_or c k 0) (get_or f k 0)) 0))

-- ---- the cubes around one

others-push : (at : ℕ) (C : Cover) (c : Cube) → others at (C ++ c ∷ []) ≡ cond (eqb (length C) at) (others at C) (others at C ++ c ∷ [])
others-push zero [] c = refl
others-push zero (d ∷ C) c = let n : eqb (suc (length C)) 0 ≡ false = grind (arith, nat_tests) in rw n
others-push (suc at) [] c =
    let n : eqb 0 (suc at) ≡ false = grind (arith, nat_tests) in
    let e : suc at + 1 ≡ suc (at + 1) = omega arith in
    rw (n, e) (ap₂ (λ (A B : Cover). c ∷ (A ++ B)) (take_all at [] (omega arith)) (drop_all (at + 1) [] (omega arith)))
others-push (suc at) (d ∷ C) c =
    let e : suc at + 1 ≡ suc (at + 1) = omega arith in
    let n : eqb (suc (length C)) (suc at) ≡ eqb (length C) at = grind (arith, nat_tests) in
    rw (e, n) (ap (λ D. d ∷ D) (others-push at C c) ∙ by (eqb (length C) at))
  where
    by : (t : Bool) → d ∷ cond t (others at C) (others at C ++ c ∷ []) ≡ cond t (d ∷ others at C) (d ∷ (others at C ++ c ∷ []))
    by true = refl
    by false = refl

others_le : (at : ℕ) (C : Cover) → length (others at C) ≤ length C
others_le at C = simp (length-append, length-take, length-drop) (omega arith)

module _ (p at i k : ℕ) (o f : Cube) (X : List ℕ) where
  pub around_le : part_weight o f (others at (cubes p i X)) k ≤ i
  around_le = omega (arith, weight_le o f k (others at (cubes p i X)), others_le at (cubes p i X), length-cubes p i X)

  -- the cube in the middle is passed over
  pub around-itself : i ≡ at → part_weight o f (others at (cubes p (i + 1) X)) k ≡ part_weight o f (others at (cubes p i X)) k
  around-itself e =
      let t : eqb (length (cubes p i X)) at ≡ true = grind (arith, nat_tests, length-cubes p i X) in
      ap (λ C. part_weight o f (others at C) k) (cubes_more p i X)
      ∙ ap (λ C. part_weight o f C k) (others-push at (cubes p i X) (cube_at p i X) ∙ ap (λ b. cond b (others at (cubes p i X)) (others at (cubes p i X) ++ cube_at p i X ∷ [])) t)

  -- another is weighed
  pub around_more : (i ≡ at → ⊥) → part_weight o f (others at (cubes p (i + 1) X)) k ≡ part_weight o f (others at (cubes p i X)) k + adds o f k (cube_at p i X)
  around_more n =
      let t : eqb (length (cubes p i X)) at ≡ false = grind (arith, nat_tests, length-cubes p i X) in
      ap (λ C. part_weight o f (others at C) k) (cubes_more p i X)
      ∙ ap (λ C. part_weight o f C k) (others-push at (cubes p i X) (cube_at p i X) ∙ ap (λ b. cond b (others at (cubes p i X)) (others at (cubes p i X) ++ cube_at p i X ∷ [])) t)
      ∙ weight_push o f k (others at (cubes p i X)) (cube_at p i X)

-- ---- sums

-- the weights ws with one more at each part below k that passes the test
abbrev pub Adding : ℕ → (ℕ → Bool) → List ℕ → List ℕ → Type 0
Adding k t ws vs =
    ((j : ℕ) → j < k → get_or vs j 0 ≡ get_or ws j 0 + cond (t j) 1 0) × ((j : ℕ) → k ≤ j → get_or vs j 0 ≡ get_or ws j 0)

pub adding_true : (k : ℕ) (t : ℕ → Bool) (ws vs : List ℕ) → t k ≡ true → k < length vs → Adding k t ws vs → Adding (k + 1) t ws (set vs k (get_or vs k 0 + 1))
adding_true k t ws vs e h inv = (
  below_more _ _
      (λ j m. let ne : j ≢ k = omega arith in get_or-set_other vs k j _ 0 ne ∙ inv.0 j m)
      (get_or-set_same vs k _ 0 h ∙ ap (λ n. n + 1) (inv.1 k (omega arith)) ∙ ap (λ b. get_or ws k 0 + cond b 1 0) (sym e)),
  λ j m. let ne : j ≢ k = omega arith in get_or-set_other vs k j _ 0 ne ∙ inv.1 j (omega arith),
)

pub adding_false : (k : ℕ) (t : ℕ → Bool) (ws vs : List ℕ) → t k ≡ false → Adding k t ws vs → Adding (k + 1) t ws vs
adding_false k t ws vs e inv = (
  below_more _ _ inv.0 (inv.1 k (omega arith) ∙ none (get_or ws k 0) ∙ ap (λ b. get_or ws k 0 + cond b 1 0) (sym e)),
  λ j m. inv.1 j (omega arith),
)
  where
    none : (n : ℕ) → n ≡ n + 0
    none n = omega arith
