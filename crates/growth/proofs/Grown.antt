-- A cube that grows part after part.
use Rattle.std.proofs.Common.{◌≡◌, ℕ, zero, suc, ◌+◌, ◌<◌, Bool, true, false, not, cond, List, [], ◌∷◌, length, get_or, set, replicate, count_by, Some, sym, refl, ap, ◌∙◌, arith}
use Rattle.std.proofs.lemmas.List.Sums.{sum_by-set, sum_by-cons}
use Rattle.cubes.specs.Cubes.{Cube, Cover}
use Rattle.moves.specs.Widen.{widened}
use Rattle.moves.specs.Expand.{part_weight, over, widen_at, growing, grown, Growth}
use Rattle.orders.specs.Searches.{lightest}

-- ---- the parts that have not grown yet

-- one less
pub count-set : (t : List Bool) (k : ℕ) → k < length t → get_or t k false ≡ false → count_by not t ≡ suc (count_by not (set t k true))
count-set t k h e =
    let f : ◌≡◌ {A = ℕ} (cond (not (get_or t k false)) 1 0) 1 = ap (λ b. cond (not b) 1 0) e in
    let q : count_by not (set t k true) + cond (not (get_or t k false)) 1 0 ≡ count_by not t + 0 = sum_by-set (λ b. cond (not b) 1 0) t k true false h in
    omega (arith, q, f)

-- none, where every part is marked
pub count-none : (t : List Bool) → ((k : ℕ) → k < length t → not (get_or t k false) ≡ false) → count_by not t ≡ 0
count-none [] h = refl
count-none (b ∷ t) h =
    let f : ◌≡◌ {A = ℕ} (cond (not b) 1 0) 0 = ap (λ c. cond c 1 0) (h 0 (omega arith)) in
    let q : count_by not (b ∷ t) ≡ cond (not b) 1 0 + count_by not t = sum_by-cons (λ c. cond (not c) 1 0) b t in
    omega (arith, q, f, count-none t (λ k l. h (suc k) (omega arith)))

-- all, where none is marked
pub count-all : (n : ℕ) → count_by not (replicate n false) ≡ n
count-all zero = refl
count-all (suc n) =
    let q : count_by not (false ∷ replicate n false) ≡ 1 + count_by not (replicate n false) = sum_by-cons (λ c. cond (not c) 1 0) false (replicate n false) in
    omega (arith, q, count-all n)

-- ---- part after part

module _ (p : ℕ) (w : ℕ → ℕ) (U : Cube) (R : Cover) where
  -- what has grown, and what the rest makes of it
  abbrev pub growing_on : List Bool → Cube → Growth
  growing_on t f = growing (count_by not t) p w U R (t, f)

  pub grows-start : (t : List Bool) (f : Cube) → t ≡ replicate p false → growing_on t f ≡ growing p p w U R (replicate p false, f)
  grows-start t f e = ap (λ u. growing (count_by not u) p w U R (u, f)) e ∙ ap (λ n. growing n p w U R (replicate p false, f)) (count-all p)

  pub grows-one : (t : List Bool) (f : Cube) (k : ℕ) → lightest p w t ≡ Some k → k < length t → get_or t k false ≡ false
      → growing_on (set t k true) (widened k (get_or U k 0) f R) ≡ growing_on t f
  grows-one t f k e h m =
      sym (ap (λ n. growing n p w U R (t, f)) (count-set t k h m) ∙ ap (λ q. growing (count_by not (set t k true)) p w U R (widen_at U R (t, f) q)) e)

  pub grows-end : (t : List Bool) (f : Cube) → ((k : ℕ) → k < length t → not (get_or t k false) ≡ false) → growing_on t f ≡ (t, f)
  grows-end t f h = ap (λ n. growing n p w U R (t, f)) (count-none t h)

-- all parts of f have grown
pub grown-all : (p : ℕ) (U f : Cube) (R C : Cover) (s : Growth) → length f ≡ p → s ≡ growing p p (part_weight (over U f R) f C) U R (replicate p false, f) → s.1 ≡ grown U R f C
unfolding grown
grown-all p U f R C s l e = ap (λ (s : Growth). s.1) e ∙ ap (λ n. (growing n n (part_weight (over U f R) f C) U R (replicate n false, f)).1) (sym l)
