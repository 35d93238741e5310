-- Areas of cubes: what a write to one cube leaves, and the cubes one after another.
use Rattle.std.proofs.Common.{◌≡◌, ℕ, zero, suc, ◌+◌, ◌-◌, ◌*◌, ◌<◌, ◌≤◌, List, [], ◌∷◌, ◌++◌, map, length, get_or, take, drop, sym, refl, ap, ◌∙◌, mul-le-mul_right, add-mul, one-mul, add-one, arith}
use borrow.Rule.Slice.PartMut.{put_mid}
use Rattle.std.specs.List.{AllByRecursion}
use Rattle.std.proofs.lemmas.List.{append_assoc, map-append, take-map, drop-map, take_at, drop_at, drop-take, drop-drop, length-take, length-drop, length-append, take-append-drop, take-take}
use Rattle.std.proofs.lemmas.Slice.{take-put_mid_below, drop-put_mid}
use Rattle.cubes.specs.Areas.{cube_at, cubes, put_at, flat, overlay}

-- ---- places

-- the place after i
pub next_place : (i p : ℕ) → (i + 1) * p ≡ i * p + p
next_place i p = add-mul i 1 p ∙ ap (λ n. i * p + n) (one-mul p)

suc_place : (i p : ℕ) → suc i * p ≡ p + i * p
suc_place i p = omega (arith, next_place i p, add-one i)

-- a place below i ends before i begins
pub place_below : (j i p : ℕ) → j < i → j * p + p ≤ i * p
place_below j i p h = omega (arith, next_place j p, mul-le-mul_right {m = j + 1} {n = i} p (omega arith))

-- ---- one cube

pub map-put : {X : Type 0} (s : X → ℕ) (p i : ℕ) (c xs : List X) → map s (put_at p i c xs) ≡ put_at p i (map s c) (map s xs)
map-put s p i c xs = simp (map-append, take-map, drop-map)

pub map-cube_at : {X : Type 0} (s : X → ℕ) (p i : ℕ) (xs : List X) → map s (cube_at p i xs) ≡ cube_at p i (map s xs)
map-cube_at s p i xs = simp (take-map, drop-map)

pub length-cube_at : {X : Type 0} (p i : ℕ) (xs : List X) → i * p + p ≤ length xs → length (cube_at p i xs) ≡ p
length-cube_at p i xs h = simp (length-take, length-drop) (omega arith)

-- what lies before decides a cube
pub cube_at-front : {X : Type 0} (p i n : ℕ) (xs ys : List X) → i * p + p ≤ n → take n xs ≡ take n ys → cube_at p i xs ≡ cube_at p i ys
cube_at-front {X} p i n xs ys h e =
    let at : (l : List X) → cube_at p i l ≡ drop (i * p) (take (i * p + p) (take n l)) = λ l. sym (drop-take (i * p) p l) ∙ ap (drop (i * p)) (sym (take-take (i * p + p) n l h)) in
    at xs ∙ ap (λ l. drop (i * p) (take (i * p + p) l)) e ∙ sym (at ys)

module _ {X : Type 0} (p i : ℕ) (c xs : List X) (fits : i * p + p ≤ length xs) (size : length c ≡ p) where
  pub length-put : length (put_at p i c xs) ≡ length xs
  length-put = simp (length-append, length-take, length-drop) (omega arith)

  pub take_put : (n : ℕ) → n ≤ i * p → take n (put_at p i c xs) ≡ take n xs
  take_put n h = take-put_mid_below (i * p) p xs c n h (omega arith)

  pub drop-put : (n : ℕ) → i * p + p ≤ n → drop n (put_at p i c xs) ≡ drop n xs
  drop-put n h = drop-put_mid (i * p) p xs c n h (omega arith) size

  pub cube_at-put : cube_at p i (put_at p i c xs) ≡ c
  cube_at-put =
      let front : length (take (i * p) xs) ≡ i * p = simp length-take (omega arith) in
      ap (take p) (drop_at (take (i * p) xs) (c ++ drop p (drop (i * p) xs)) (i * p) front) ∙ take_at c (drop p (drop (i * p) xs)) p size

  pub cube_at-put_above : (j : ℕ) → i < j → cube_at p j (put_at p i c xs) ≡ cube_at p j xs
  cube_at-put_above j h = ap (take p) (drop-put (j * p) (place_below i j p h))

  pub cube_at-put_below : (j : ℕ) → j < i → cube_at p j (put_at p i c xs) ≡ cube_at p j xs
  cube_at-put_below j h = cube_at-front p j (i * p) (put_at p i c xs) xs (place_below j i p h) (take_put (i * p) (omega arith))

-- a write to the part of an area that is cube i: its cube is made another by q
pub put_part : {X : Type 0} (s : X → ℕ) (p i n : ℕ) (xs ys : List X) (q : List ℕ → List ℕ) → n ≡ p → map s ys ≡ q (map s (take n (drop (i * p) xs))) → map s (put_mid (i * p) n xs ys) ≡ put_at p i (q (cube_at p i (map s xs))) (map s xs)
put_part s p i n xs ys q e f =
    ap (λ m. map s (put_mid (i * p) m xs ys)) e
    ∙ map-put s p i ys xs
    ∙ ap (λ c. put_at p i c (map s xs)) (f ∙ ap (λ m. q (map s (take m (drop (i * p) xs)))) e ∙ ap q (map-cube_at s p i xs))

-- ---- the first cubes

pub length-cubes : {X : Type 0} (p n : ℕ) (xs : List X) → length (cubes p n xs) ≡ n
length-cubes p zero xs = refl
length-cubes p (suc n) xs = ap suc (length-cubes p n (drop p xs))

pub map-cubes : {X : Type 0} (s : X → ℕ) (p n : ℕ) (xs : List X) → map (map s) (cubes p n xs) ≡ cubes p n (map s xs)
map-cubes s p zero xs = refl
map-cubes s p (suc n) xs =
    ap (λ c. c ∷ map (map s) (cubes p n (drop p xs))) (sym (take-map s p xs))
    ∙ ap (λ C. take p (map s xs) ∷ C) (map-cubes s p n (drop p xs) ∙ ap (cubes p n) (sym (drop-map s p xs)))

-- the cubes from place i on
pub drop-cubes : {X : Type 0} (p n i : ℕ) (xs : List X) → i ≤ n → drop i (cubes p n xs) ≡ cubes p (n - i) (drop (i * p) xs)
drop-cubes p n zero xs h =
    let e : 0 * p ≡ 0 = omega arith in
    let f : n - 0 ≡ n = omega arith in
    rw (e, f)
drop-cubes p zero (suc i) xs h = absurd (omega arith)
drop-cubes p (suc n) (suc i) xs h =
    let e : suc n - suc i ≡ n - i = omega arith in
    drop-cubes p n i (drop p xs) (omega arith) ∙ rw e (ap (cubes p (n - i)) (drop-drop (i * p) p xs ∙ ap (λ m. drop m xs) (sym (suc_place i p))))

pub map-drop-cubes : {X : Type 0} (s : X → ℕ) (p n i : ℕ) (xs : List X) → map (map s) (drop i (cubes p n xs)) ≡ drop i (cubes p n (map s xs))
map-drop-cubes s p n i xs = sym (drop-map (map s) i (cubes p n xs)) ∙ ap (drop i) (map-cubes s p n xs)

pub wide_cubes : {X : Type 0} (p n : ℕ) (xs : List X) → n * p ≤ length xs → AllByRecursion (λ (c : List X). length c ≡ p) (cubes p n xs)
wide_cubes p zero xs h = tt
wide_cubes p (suc n) xs h =
    let e = suc_place n p in
    let first : length (take p xs) ≡ p = simp length-take (omega arith) in
    let left : n * p ≤ length (drop p xs) = simp length-drop (omega arith) in
    (first, wide_cubes p n (drop p xs) left)

pub get_or-cubes : {X : Type 0} (p n i : ℕ) (xs : List X) → i < n → get_or (cubes p n xs) i [] ≡ cube_at p i xs
get_or-cubes p zero i xs h = absurd (omega arith)
get_or-cubes p (suc n) zero xs h = let e : 0 * p ≡ 0 = omega arith in rw e
get_or-cubes p (suc n) (suc i) xs h =
    get_or-cubes p n i (drop p xs) (omega arith) ∙ ap (take p) (drop-drop (i * p) p xs ∙ ap (λ m. drop m xs) (sym (suc_place i p)))

pub cubes_more : {X : Type 0} (p n : ℕ) (xs : List X) → cubes p (n + 1) xs ≡ cubes p n xs ++ (cube_at p n xs ∷ [])
cubes_more p zero xs = let e : 0 * p ≡ 0 = omega arith in rw e
cubes_more p (suc n) xs =
    let f : suc n + 1 ≡ suc (n + 1) = omega arith in
    rw f (ap (λ l. take p xs ∷ l) (cubes_more p n (drop p xs)) ∙ ap (λ l. take p xs ∷ (cubes p n (drop p xs) ++ (take p l ∷ []))) (drop-drop (n * p) p xs ∙ ap (λ m. drop m xs) (sym (suc_place n p))))

pub cubes_front : {X : Type 0} (p n : ℕ) (xs ys : List X) → take (n * p) xs ≡ take (n * p) ys → cubes p n xs ≡ cubes p n ys
cubes_front p zero xs ys e = refl
cubes_front {X} p (suc n) xs ys e =
    let f = suc_place n p in
    let h : p ≤ suc n * p = omega arith in
    let first : take p xs ≡ take p ys = sym (take-take p (suc n * p) xs h) ∙ ap (take p) e ∙ take-take p (suc n * p) ys h in
    let left : (l : List X) → take (n * p) (drop p l) ≡ drop p (take (suc n * p) l) = λ l. sym (drop-take p (n * p) l) ∙ ap (λ m. drop p (take m l)) (sym f) in
    let others = cubes_front p n (drop p xs) (drop p ys) (left xs ∙ ap (drop p) e ∙ sym (left ys)) in
    cc

pub cubes-put : {X : Type 0} (p n : ℕ) (c xs : List X) → n * p + p ≤ length xs → length c ≡ p → cubes p (n + 1) (put_at p n c xs) ≡ cubes p n xs ++ (c ∷ [])
cubes-put p n c xs h e =
    let same = cubes_front p n (put_at p n c xs) xs (take_put p n c xs h e (n * p) (omega arith)) in
    let here = cube_at-put p n c xs h e in
    cubes_more p n (put_at p n c xs) ∙ rw (same, here)

-- ---- cubes written one after another

pub length-flat : {X : Type 0} (p : ℕ) (C : List (List X)) → AllByRecursion (λ (c : List X). length c ≡ p) C → length (flat C) ≡ length C * p
length-flat p [] w = omega arith
length-flat p (c ∷ C) w = simp length-append (omega (arith, w.0, length-flat p C w.1, suc_place (length C) p))

-- the cubes that were written are there
pub cubes-flat : {X : Type 0} (p : ℕ) (C : List (List X)) (xs : List X) → AllByRecursion (λ (c : List X). length c ≡ p) C → cubes p (length C) (flat C ++ xs) ≡ C
cubes-flat p [] xs w = refl
cubes-flat p (c ∷ C) xs w =
    let split = append_assoc c (flat C) xs in
    let first : take p ((c ++ flat C) ++ xs) ≡ c = rw split (take_at c (flat C ++ xs) p w.0) in
    let left : drop p ((c ++ flat C) ++ xs) ≡ flat C ++ xs = rw split (drop_at c (flat C ++ xs) p w.0) in
    let others = cubes-flat p C xs w.1 in
    rw (first, left, others)

-- the first n cubes, one after another
pub flat-cubes : {X : Type 0} (p n : ℕ) (xs : List X) → n * p ≤ length xs → flat (cubes p n xs) ≡ take (n * p) xs
flat-cubes p zero xs h = let e : 0 * p ≡ 0 = omega arith in rw e
flat-cubes p (suc n) xs h =
    let e = suc_place n p in
    let left : n * p ≤ length (drop p xs) = simp length-drop (omega arith) in
    let le : p ≤ suc n * p = omega arith in
    let first : take p (take (suc n * p) xs) ≡ take p xs = take-take p (suc n * p) xs le in
    let others : drop p (take (suc n * p) xs) ≡ take (n * p) (drop p xs) = rw e (drop-take p (n * p) xs) in
    ap (λ l. take p xs ++ l) (flat-cubes p n (drop p xs) left ∙ sym others)
    ∙ ap (λ l. l ++ drop p (take (suc n * p) xs)) (sym first)
    ∙ take-append-drop p (take (suc n * p) xs)

-- an area that is as before past its first n cubes
pub overlay-cubes : {X : Type 0} (p n : ℕ) (xs ys : List X) → n * p ≤ length xs → drop (n * p) xs ≡ drop (n * p) ys → xs ≡ overlay (flat (cubes p n xs)) ys
overlay-cubes p n xs ys h e =
    let front = flat-cubes p n xs h in
    let size : length (flat (cubes p n xs)) ≡ n * p = ap length front ∙ simp length-take (omega arith) in
    sym (ap (λ m. flat (cubes p n xs) ++ drop m ys) size ∙ ap (λ l. l ++ drop (n * p) ys) front ∙ ap (λ l. take (n * p) xs ++ l) (sym e) ∙ take-append-drop (n * p) xs)
