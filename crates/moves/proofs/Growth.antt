-- A cube that is widened in each part, in any order, is prime.
use Rattle.std.proofs.Common.{◌≡◌, ℕ, zero, suc, ◌+◌, ◌^◌, ◌<◌, ◌≤◌, Bool, true, false, cond, not, ◌≢◌, List, [], ◌∷◌, length, get_or, set, replicate, Some, None, Option, sym, refl, ap, ◌∙◌, subst, ⊎_elim, arith}
use lib.Bits.{bit_or}
use Rattle.std.proofs.lemmas.List.{get_or-set_same, get_or-set_other, set-set, set_comm, length-set, length-replicate, get_or-replicate}
use Rattle.std.proofs.lemmas.Bool.{cases_eq, not-true, not-false, both_ways}
use Rattle.parts.specs.Sets.{has, minus}
use Rattle.parts.proofs.Bits.{has-or, has-minus, has_one}
use Rattle.cubes.specs.Cubes.{Cube, Cover, Wide, covers}
use Rattle.orders.specs.Bests.{Found}
use Rattle.orders.specs.Searches.{lightest}
use Rattle.orders.proofs.Bests.{best-found}
use Rattle.moves.specs.Widen.{touches, blocked, widened, Full}
use Rattle.moves.specs.Sound.{PrimeIn}
use Rattle.moves.specs.Expand.{Growth, over, part_weight, widen_at, growing, grown}
use Rattle.moves.proofs.Widening.{widened-safe, widened_more, part_more, meets-blocked, covers_self, covers_at}
use Rattle.moves.proofs.Vertices.{touches_more, covers_part, covers-set, covers_trans, minus_inside}

-- the cube has p parts, lies within U and meets no cube of R
abbrev pub Fit : ℕ → Cube → Cover → Cube → Type 0
Fit p U R c = (length c ≡ p) × (covers U c ≡ true) × (touches c R ≡ false)

-- the same of a cube wherever it lies
abbrev pub Safe : ℕ → Cover → Cube → Type 0
Safe p R c = (length c ≡ p) × (touches c R ≡ false)

-- ---- one part

-- the part that was widened last
full_here : (k : ℕ) (U g : Cube) (R : Cover) → Wide (length g) R → k < length g → Full k U (widened k (get_or U k 0) g R) R
full_here k U g R w l x m o =
    let s : ℕ = minus (get_or U k 0) (blocked k g R) in
    let e : get_or (set g k s) k 0 ≡ s = get_or-set_same g k s 0 l in
    let b : has (blocked k g R) x ≡ true = grind (arith, has-minus (get_or U k 0) (blocked k g R) x, ap (λ t. has t x) e) in
    rw set-set (meets-blocked k x g R _ w l (grind (arith, has-or (get_or (set g k s) k 0) (2 ^ x) x, has_one x)) b)

-- another part, which only grew
full_still : (p k n s : ℕ) (U g : Cube) (R : Cover) → length g ≡ p → Wide p R → k ≢ n → minus (get_or g n 0) s ≡ 0 → Full k U g R → Full k U (set g n s) R
full_still p k n s U g R eg w ne i F x m o =
    let e : get_or (set g n s) k 0 ≡ get_or g k 0 = get_or-set_other g n k s 0 ne in
    let y : ℕ = bit_or (get_or g k 0) (2 ^ x) in
    let ne' : n ≢ k = omega arith in
    let z : minus (get_or (set g k y) n 0) s ≡ 0 = rw (get_or-set_other g k n y 0 ne') i in
    let l : length (set g k y) ≡ p = length-set g k y ∙ eg in
    rw (e, set_comm g n k s y ne')
    (touches_more p (set (set g k y) n s) (set g k y) R (length-set (set g k y) n s ∙ l) l w (covers_at n (set g k y) s z) (F x m (rw e at o)))

-- ---- marks

abbrev unmarked : List Bool → ℕ
unmarked [] = 0
unmarked (t ∷ T) = cond t 0 1 + unmarked T

unmarked-set : (t : List Bool) (k : ℕ) → k < length t → get_or t k false ≡ false → unmarked (set t k true) < unmarked t
unmarked-set [] k l h = absurd (omega arith)
unmarked-set (t ∷ T) zero l h = rw h (omega arith)
unmarked-set (t ∷ T) (suc k) l h = omega (arith, unmarked-set T k (omega arith) h)

none-unmarked : (t : List Bool) → unmarked t ≡ 0 → (k : ℕ) → k < length t → get_or t k false ≡ true
none-unmarked [] e k l = absurd (omega arith)
none-unmarked (true ∷ T) e zero l = refl
none-unmarked (false ∷ T) e zero l = absurd (omega arith)
none-unmarked (t ∷ T) e (suc k) l = none-unmarked T (omega arith) k (omega arith)

all_unmarked : (t : List Bool) → ((k : ℕ) → k < length t → get_or t k false ≡ true) → unmarked t ≡ 0
all_unmarked [] h = refl
all_unmarked (t ∷ T) h = rw (h 0 (omega arith)) (omega (arith, all_unmarked T (λ k l. h (suc k) (omega arith))))

unmarked-replicate : (n : ℕ) → unmarked (replicate n false) ≡ n
unmarked-replicate zero = refl
unmarked-replicate (suc n) = omega (arith, unmarked-replicate n)

-- ---- the growth of f

lightest-found : (p : ℕ) (w : ℕ → ℕ) (t : List Bool) → Found (λ k. not (get_or t k false)) p (lightest p w t)
lightest-found p w t = best-found (λ k. not (get_or t k false)) _ p

module _ (p : ℕ) (w : ℕ → ℕ) (U : Cube) (R : Cover) (f : Cube) (eU : length U ≡ p) (wR : Wide p R) (ef : length f ≡ p) where
  abbrev Good : Growth → Type 0
  Good s =
      (length s.0 ≡ p) × Fit p U R s.1 × (covers s.1 f ≡ true)
      × ((k : ℕ) → k < p → get_or s.0 k false ≡ true → Full k U s.1 R)

  widen_keeps : (t : List Bool) (g : Cube) (k : ℕ) → k < p → Good (t, g) → Good (set t k true, widened k (get_or U k 0) g R)
  widen_keeps t g k l h =
      let fit : Fit p U R g = h.1 in
      let wg : Wide (length g) R = rw fit.0 wR in
      let lg : k < length g = rw fit.0 l in
      let u : ℕ = get_or U k 0 in
      let s : ℕ = minus u (blocked k g R) in
      let in-u : minus (get_or g k 0) u ≡ 0 = covers_part U g k (eU ∙ sym fit.0) fit.1 in
      let more : covers (set g k s) g ≡ true = widened_more k u g R wg lg fit.2 in-u in
      let long : length (set g k s) ≡ p = length-set g k s ∙ fit.0 in (
        length-set t k true ∙ h.0,
        (long, covers-set U g k s (eU ∙ sym fit.0) fit.1 (minus_inside u (blocked k g R)), widened-safe k u g R wg lg),
        covers_trans (set g k s) g f (long ∙ sym fit.0) (fit.0 ∙ sym ef) more h.2,
        λ j m e. ⊎_elim
            (λ q. subst (λ i. Full i U (set g k s) R) (sym q) (full_here k U g R wg lg))
            (λ q. full_still p j k s U g R fit.0 wR q (part_more k u g R wg lg fit.2 in-u) (h.3 j m (sym (get_or-set_other t k j true false q) ∙ e)))
            (cases_eq j k),
      )

  growing_good : (n : ℕ) (s : Growth) → unmarked s.0 ≤ n → Good s
      → Good (growing n p w U R s) × ((k : ℕ) → k < p → get_or (growing n p w U R s).0 k false ≡ true)
  growing_good zero s l h = (h, λ k m. none-unmarked s.0 (omega arith) k (rw h.0 m))
  growing_good (suc n) s l h =
      let (a, b) = by (lightest p w s.0) (lightest-found p w s.0) in
      growing_good n (widen_at U R s (lightest p w s.0)) a b
    where
      by : (o : Option ℕ) → Found (λ k. not (get_or s.0 k false)) p o → (unmarked (widen_at U R s o).0 ≤ n) × Good (widen_at U R s o)
      by None g =
          let z : unmarked s.0 ≡ 0 = all_unmarked s.0 (λ k m. not-false _ (g k (rw h.0 at m))) in (omega arith, h)
      by (Some k) g = (
        omega (arith, unmarked-set s.0 k (rw h.0 g.0) (not-true _ g.1)),
        widen_keeps s.0 s.1 k g.0 h,
      )

-- the grown cube is fit, covers f, and is prime
pub grown_good : (p : ℕ) (U : Cube) (R : Cover) (f : Cube) (C : Cover) → length U ≡ p → Wide p R → Fit p U R f
    → Fit p U R (grown U R f C) × (covers (grown U R f C) f ≡ true) × PrimeIn p U R (grown U R f C)
unfolding grown
grown_good p U R f C eU wR fit =
    let q : ℕ = length f in
    let wt = part_weight (over U f R) f C in
    let eq : length U ≡ q = eU ∙ sym fit.0 in
    let wq : Wide q R = subst (λ n. Wide n R) (sym fit.0) wR in
    let here : Fit q U R f = (refl, fit.1, fit.2) in
    let none : (k : ℕ) → k < q → get_or (replicate q false) k false ≡ true → Full k U f R =
    λ k l e. absurd (both_ways _ (get_or-replicate q k false false l) e) in
    let r = growing_good q wt U R f eq wq refl q (replicate q false, f) (omega (arith, unmarked-replicate q))
    (length-replicate q false, here, covers_self f, none) in
    let g : Cube = (growing q q wt U R (replicate q false, f)).1 in (
      subst (λ n. Fit n U R g) fit.0 r.0.1,
      r.0.2,
      λ k l. let m : k < q = rw fit.0 l in r.0.3 k m (r.1 k m),
    )

-- ---- wherever the cube lies, it meets none once it met none

module _ (p : ℕ) (w : ℕ → ℕ) (U : Cube) (R : Cover) (wR : Wide p R) where
  growing-safe : (n : ℕ) (s : Growth) → Safe p R s.1 → Safe p R (growing n p w U R s).1
  growing-safe zero s h = h
  growing-safe (suc n) s h = growing-safe n (widen_at U R s (lightest p w s.0)) (by (lightest p w s.0) (lightest-found p w s.0))
    where
      by : (o : Option ℕ) → Found (λ k. not (get_or s.0 k false)) p o → Safe p R (widen_at U R s o).1
      by None g = h
      by (Some k) g = (
        length-set s.1 k (minus (get_or U k 0) (blocked k s.1 R)) ∙ h.0,
        widened-safe k (get_or U k 0) s.1 R (rw h.0 wR) (rw h.0 g.0),
      )

pub grown-safe : (p : ℕ) (U : Cube) (R : Cover) (f : Cube) (C : Cover) → Wide p R → Safe p R f → Safe p R (grown U R f C)
unfolding grown
grown-safe p U R f C wR (e, t) =
    let q : ℕ = length f in
    let wq : Wide q R = subst (λ n. Wide n R) (sym e) wR in
    let (a, b) = growing-safe q (part_weight (over U f R) f C) U R wq q (replicate q false, f) (refl, t) in
    (a ∙ e, b)
