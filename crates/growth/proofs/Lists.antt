-- Lists of cubes, read cube by cube.
use Rattle.std.proofs.Common.{◌≡◌, ℕ, ◌+◌, ◌<◌, List, [], ◌∷◌, ◌++◌, map, length, get_or, drop, Some, None, Option, Bor, refl, sym, ap, ◌∙◌, arith}
use Rattle.std.specs.List.{zip, enumerate_from}
use Rattle.std.proofs.lemmas.List.FromFn.{length-enumerate_from, get_or-enumerate_from}
use Rattle.std.proofs.lemmas.Slice.Zip.{length-zip, get_or-zip}
use Rattle.std.specs.Iterator.{Yields, YieldsFirstRef}
use Rattle.std.proofs.lemmas.Iterator.{YieldsList}
use Rattle.std.proofs.lemmas.Iterator.Consumers.{YieldsList-from_first, YieldsList-turn, YieldsList-end}
use Rattle.std.proofs.lemmas.List.{map-append, get_or_default}
use Rattle.cubes.specs.declared.list.Cubes.{Cubes}
use Rattle.cubes.specs.declared.list.CubesIter.{CubesIter}
use Rattle.cubes.specs.Areas.{cubes, cube_at}
use Rattle.cubes.specs.Cubes.{Cover}
use Rattle.cubes.specs.Lists.{sets_of}
use Rattle.cubes.proofs.Areas.{length-cubes, get_or-cubes, length-cube_at, map-cube_at, place_below}
use Rattle.cubes.proofs.Flat.{map-cubes}
use Rattle.cubes.proofs.Reading.{below, cube_is}

-- the sets of the cubes that were read
abbrev pub sets_read : {X : Type 0} → (X → ℕ) → List (Bor (List X)) → Cover
sets_read s rs = map (λ r. map s r.now) rs

-- what is left to read
abbrev pub left : {X : Type 0} → CubesIter X → List (List X)
left i = cubes i.p i.n i.rest.now

sets-now : {X : Type 0} (s : X → ℕ) (rs : List (Bor (List X))) → sets_read s rs ≡ map (map s) (map (λ r. r.now) rs)
sets-now s [] = refl
sets-now s (r ∷ rs) = ap (λ C. map s r.now ∷ C) (sets-now s rs)

pub sets_read-push : {X : Type 0} (s : X → ℕ) (rs : List (Bor (List X))) (r : Bor (List X)) → sets_read s (rs ++ r ∷ []) ≡ sets_read s rs ++ map s r.now ∷ []
sets_read-push s rs r = simp map-append

module _ {X : Type 0} (l : Cubes X) (i : CubesIter X) (start : left i ≡ cubes l.p l.n l.parts.now) where
  abbrev road : YieldsList (YieldsFirstRef (left {X = X})) (λ r. r.now) i (cubes l.p l.n l.parts.now)
  road = YieldsList-from_first (λ r. r.now) left (cubes l.p l.n l.parts.now) start

  -- the cube that is read next
  pub next_read : (rs : List (Bor (List X))) (j : CubesIter X) → Yields (YieldsFirstRef left) i rs j → (o : Option (Bor (List X))) (k : CubesIter X) (r : Bor (List X))
      → o ≡ Some r → YieldsFirstRef left j o k → (length rs < l.n) × (r.now ≡ cube_at l.p (length rs) l.parts.now)
  next_read rs j y o k r e t =
      let h = YieldsList-turn road rs j y o k r e t in
      let below : length rs < l.n = omega (arith, h.0, length-cubes l.p l.n l.parts.now) in
      (below, h.1 ∙ get_or_default (cubes l.p l.n l.parts.now) (length rs) r.now [] h.0 ∙ get_or-cubes l.p l.n (length rs) l.parts.now below)

  -- it has as many parts as each
  pub width_read : (rs : List (Bor (List X))) (j : CubesIter X) → Yields (YieldsFirstRef left) i rs j → (o : Option (Bor (List X))) (k : CubesIter X) (r : Bor (List X))
      → o ≡ Some r → YieldsFirstRef left j o k → length r.now ≡ l.p
  width_read rs j y o k r e t =
      let h = next_read rs j y o k r e t in
      ap length h.1 ∙ length-cube_at l.p (length rs) l.parts.now (omega (arith, l.fits, place_below (length rs) l.n l.p h.0))

  -- all are read
  pub all_read : (s : X → ℕ) (rs : List (Bor (List X))) (j : CubesIter X) → Yields (YieldsFirstRef left) i rs j → (o : Option (Bor (List X))) (k : CubesIter X)
      → o ≡ None → YieldsFirstRef left j o k → sets_read s rs ≡ sets_of s l
  all_read s rs j y o k e t =
      let h = YieldsList-end road rs j y o k e t in
      sets-now s rs ∙ ap (map (map s)) h.0 ∙ map-cubes s l.p l.n l.parts.now

-- ---- the cubes by number: from place i on the cube c is next

module _ {X : Type 0} (l : Cubes X) (i : ℕ) (c : List X) (E : List (List X)) (next : drop i (cubes l.p l.n l.parts.now) ≡ c ∷ E) where
  here : cube_at l.p i l.parts.now ≡ c
  here = cube_is l.p l.n l.parts.now i c E next

  pub width_is : length c ≡ l.p
  width_is = ap length (sym here) ∙ length-cube_at l.p i l.parts.now (omega (arith, l.fits, place_below i l.n l.p (below l.p l.n l.parts.now i c E next)))

  pub sets_at : (s : X → ℕ) → map s c ≡ cube_at l.p i (map s l.parts.now)
  sets_at s = ap (map s) (sym here) ∙ map-cube_at s l.p i l.parts.now

-- ---- two slices side by side, with the number of each pair

pub pair_read : {A B : Type 0} (xs : List A) (ys : List B) (i k : ℕ) (x : A) (y : B)
    → (i < length (enumerate_from 0 (zip xs ys))) × ((k, (x, y)) ≡ get_or (enumerate_from 0 (zip xs ys)) i (k, (x, y)))
    → (k ≡ i) × (i < length xs) × (i < length ys) × (x ≡ get_or xs i x) × (y ≡ get_or ys i y)
pair_read xs ys i k x y h =
    let l : i < length (zip xs ys) = omega (arith, h.0, length-enumerate_from 0 (zip xs ys)) in
    let lx : i < length xs = omega (arith, length-zip xs ys) in
    let ly : i < length ys = omega (arith, length-zip xs ys) in
    let e : (k, (x, y)) ≡ (0 + i, (get_or xs i x, get_or ys i y)) =
    h.1 ∙ get_or-enumerate_from 0 (zip xs ys) i (k, (x, y)) l ∙ ap (λ q. (0 + i, q)) (get_or-zip xs ys i (x, y) lx ly) in
    (ap (λ q. q.0) e ∙ omega arith, lx, ly, ap (λ q. q.1.0) e, ap (λ q. q.1.1) e)
