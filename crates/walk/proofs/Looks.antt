-- What the rows of a list do to a piece, and what is left of it then.
use Rattle.std.proofs.Common.{◌≡◌, ℕ, suc, ◌+◌, ◌-◌, ◌<◌, ◌≤◌, Bool, true, false, cond, ◌⊎◌, [], ◌∷◌, ◌++◌, length, get_or, drop, sym, refl, ap, ◌∙◌, inl, inr, ⊎_elim, arith}
use Rattle.std.specs.List.{flat_map}
use Rattle.std.proofs.lemmas.List.{append-nil, append_assoc, drop-drop, get_or-drop, length-drop}
use Rattle.cubes.specs.Cubes.{Cube, Cover, Wide, meets, covers, pieces, rest}
use Rattle.cubes.proofs.Inside.{swallowed}
use Rattle.walk.specs.declared.rest.Look.{Look}
use Rattle.walk.specs.declared.rest.Look.TheVariants.{Gone, Cut, Free}
use Rattle.walk.specs.Look.{after, look_of}

-- ---- a row more

-- what was found before, and then what the other rows do
abbrev pub onto : Look → Look → Look
onto Gone x = Gone
onto (Cut k) x = after k x
onto Free x = x

-- ---- what a row said, by what all say

free_step : (m k : Bool) (i : ℕ) (x : Look) → cond m (cond k Gone (after i x)) x ≡ Free → (m ≡ false) × (x ≡ Free)
free_step true true i x e = absurd (let z : ◌≡◌ {A = ℕ} 0 1 = cc in omega arith)
free_step true false i Gone e = absurd (let z : ◌≡◌ {A = ℕ} 0 1 = cc in omega arith)
free_step true false i (Cut j) e = absurd (let z : ◌≡◌ {A = ℕ} 0 1 = cc in omega arith)
free_step true false i Free e = absurd (let z : ◌≡◌ {A = ℕ} 0 1 = cc in omega arith)
free_step false k i x e = (refl, e)

cut_step : (m k : Bool) (i j : ℕ) (x : Look) → cond m (cond k Gone (after i x)) x ≡ Cut j → ((m ≡ true) × (i ≡ j)) ⊎ ((m ≡ false) × (x ≡ Cut j))
cut_step true true i j x e = absurd (let z : ◌≡◌ {A = ℕ} 0 1 = cc in omega arith)
cut_step true false i j Gone e = absurd (let z : ◌≡◌ {A = ℕ} 0 1 = cc in omega arith)
cut_step true false i j (Cut k) e = inl (refl, cc)
cut_step true false i j Free e = inl (refl, cc)
cut_step false k i j x e = inr (refl, e)

gone_step : (m k : Bool) (i : ℕ) (x : Look) → cond m (cond k Gone (after i x)) x ≡ Gone → ((m ≡ true) × (k ≡ true)) ⊎ (x ≡ Gone)
gone_step true true i x e = inl (refl, refl)
gone_step true false i Gone e = inr refl
gone_step true false i (Cut j) e = absurd (let z : ◌≡◌ {A = ℕ} 0 1 = cc in omega arith)
gone_step true false i Free e = absurd (let z : ◌≡◌ {A = ℕ} 0 1 = cc in omega arith)
gone_step false k i x e = inr e

-- ---- what is left of the piece

rest-passed : (c d : Cube) (D : Cover) → meets c d ≡ false → rest c (d ∷ D) ≡ rest c D
rest-passed c d D m = ap (λ t. flat_map (λ q. rest q D) (cond t (pieces c d) (c ∷ []))) m ∙ append-nil (rest c D)

rest_met : (c d : Cube) (D : Cover) → meets c d ≡ true → rest c (d ∷ D) ≡ flat_map (λ q. rest q D) (pieces c d)
rest_met c d D m = ap (λ t. flat_map (λ q. rest q D) (cond t (pieces c d) (c ∷ []))) m

-- where no row meets it, the piece
pub look_free : (c : Cube) (i : ℕ) (D : Cover) → look_of c i D ≡ Free → rest c D ≡ c ∷ []
look_free c i [] e = refl
look_free c i (d ∷ D) e =
    let said = free_step (meets c d) (covers d c) i (look_of c (suc i) D) e in
    rest-passed c d D said.0 ∙ look_free c (suc i) D said.1

-- where some row meets and covers it, nothing
gone_after : (c : Cube) (i : ℕ) (X D : Cover) → Wide (length c) D → look_of c i D ≡ Gone → rest c (X ++ D) ≡ []
gone_after c i X [] w e = absurd (let z : ◌≡◌ {A = ℕ} 0 1 = cc in omega arith)
gone_after c i X (d ∷ D) w e =
    ⊎_elim (λ (h : (meets c d ≡ true) × (covers d c ≡ true)). swallowed c d X D (sym w.0) h.0 h.1)
    (λ (h : look_of c (suc i) D ≡ Gone). ap (rest c) (sym (append_assoc X (d ∷ []) D)) ∙ gone_after c (suc i) (X ++ d ∷ []) D w.1 h)
    (gone_step (meets c d) (covers d c) i (look_of c (suc i) D) e)

pub look_gone : (c : Cube) (i : ℕ) (D : Cover) → Wide (length c) D → look_of c i D ≡ Gone → rest c D ≡ []
look_gone c i D w e = gone_after c i [] D w e

-- where row j is the first that meets it, what is left of its pieces outside that row
pub record CutBy (c : Cube) (i j : ℕ) (D : Cover) : Type 0 where
  pub from : i ≤ j
  pub below : j < i + length D
  pub left : rest c D ≡ flat_map (λ q. rest q (drop (suc (j - i)) D)) (pieces c (get_or D (j - i) []))

cut-after : (c d : Cube) (i j : ℕ) (D : Cover) → CutBy c (suc i) j D → meets c d ≡ false → CutBy c i j (d ∷ D)
cut-after c d i j D h m =
    let e : j - i ≡ suc (j - suc i) = omega (arith, h.from) in
    record {
      from = omega (arith, h.from);
      below = omega (arith, h.below);
      left = rw e (rest-passed c d D m ∙ h.left);
    }

cut_here : (c d : Cube) (i j : ℕ) (D : Cover) → i ≡ j → meets c d ≡ true → CutBy c i j (d ∷ D)
cut_here c d i j D h m =
    let e : j - i ≡ 0 = omega arith in
    record {
      from = omega arith;
      below = omega arith;
      left = rw e (rest_met c d D m);
    }

cut_by : (c : Cube) (i j : ℕ) (D : Cover) → look_of c i D ≡ Cut j → CutBy c i j D
cut_by c i j [] e = absurd (let z : ◌≡◌ {A = ℕ} 0 1 = cc in omega arith)
cut_by c i j (d ∷ D) e =
    ⊎_elim (λ (h : (meets c d ≡ true) × (i ≡ j)). cut_here c d i j D h.1 h.0)
    (λ (h : (meets c d ≡ false) × (look_of c (suc i) D ≡ Cut j)). cut-after c d i j D (cut_by c (suc i) j D h.1) h.0)
    (cut_step (meets c d) (covers d c) i j (look_of c (suc i) D) e)

-- the same, of the rows of a list of n from number i on
module _ (n i j : ℕ) (L : Cover) (c : Cube) (size : length L ≡ n) (h : i ≤ n) (e : look_of c i (drop i L) ≡ Cut j) where
  pub cut-from : i ≤ j
  cut-from = (cut_by c i j (drop i L) e).from

  pub cut-under : j < n
  cut-under = omega (arith, (cut_by c i j (drop i L) e).below, length-drop i L)

  pub cut_left : rest c (drop i L) ≡ flat_map (λ q. rest q (drop (j + 1) L)) (pieces c (get_or L j []))
  cut_left =
      let le = cut-from in
      let at : i + (j - i) ≡ j = omega arith in
      let past : i + suc (j - i) ≡ j + 1 = omega arith in
      let row : get_or (drop i L) (j - i) [] ≡ get_or L j [] = get_or-drop i L (j - i) [] ∙ ap (λ k. get_or L k []) at in
      let others : drop (suc (j - i)) (drop i L) ≡ drop (j + 1) L = drop-drop (suc (j - i)) i L ∙ ap (λ k. drop k L) past in
      (cut_by c i j (drop i L) e).left ∙ rw (others, row)
