-- One step of each check that goes through a list.
use Rattle.std.proofs.Common.{◌≡◌, ℕ, zero, suc, ◌+◌, ◌-◌, ◌*◌, ◌/◌, ◌%◌, ◌^◌, ◌<◌, ◌≤◌, Bool, true, false, cond, ◌&&◌, ◌||◌, eqb, ltb, leb, ◌⊎◌, List, [], ◌∷◌, ◌++◌, map, length, get_or, take, drop, set, Ok, Err, sym, refl, ap, ◌∙◌, ap₂, inl, inr, add-mul, one-mul, le-div_iff_mul-le, mod-eq_of_lt, pow_mono, add-one, one-add, arith}
use mathlib.Core.Bool.{beq}
use native.Mathlib.Nat.{one-le-pow}
use lib.Count.{count_trailing_zeros}
use Rattle.std.specs.List.{list_all, zip}
use Rattle.parts.specs.Sets.{minus, whole}
use Rattle.parts.proofs.Words as Words
use Rattle.cubes.specs.Areas.{cube_at}
use Rattle.cubes.specs.Cubes.{Cube, same as same_parts}
use Rattle.cubes.specs.Tables.{Row}
use Rattle.table.specs.declared.card.Card.{Card}
use Rattle.faults.specs.declared.Kind.{Kind}
use Rattle.faults.specs.Codes.{kind_number, is_on_kind}
use Rattle.table.specs.Cards.{area_length, rows_of, is_on, blank}
use Rattle.std.proofs.lemmas.List.{drop_more, drop_all, get_or-take, length-take, length-map, get_or-map, get_or_default, map_more, set_at, append_assoc, drop-drop, get_or-drop}
use Rattle.faults.specs.declared.Cause.{Cause}
use Rattle.faults.specs.declared.Cause.TheVariants.{Shape, Area, Empty, Outside, Repeat, Full}
use Rattle.std.proofs.lemmas.Bool.{ltb-false}
use Rattle.std.proofs.lemmas.Bool.Decides.{nat_tests}
use Rattle.table.specs.Filling.{Verdict, ◌then◌, area_verdict, sizes_verdict, shape_verdict, universe_of, empty_verdict, outside_verdict, repeat_verdict, full_verdict, add_verdict}

-- what is left of the first p, from k on
left : (p k : ℕ) (xs : List ℕ) → k < p → p ≤ length xs → drop k (take p xs) ≡ get_or xs k 0 ∷ drop (k + 1) (take p xs)
left p k xs h l =
    let n : k < length (take p xs) = simp length-take (omega arith) in
    drop_more (take p xs) k 0 n ∙ ap (λ x. x ∷ drop (k + 1) (take p xs)) (get_or-take p xs k 0 h)

pub sizes_step : (most p k : ℕ) (xs : List ℕ) → k < p → p ≤ length xs
    → sizes_verdict most k (drop k (take p xs))
    ≡ cond (ltb (get_or xs k 0) 1 || ltb most (get_or xs k 0)) (Err (Shape k (get_or xs k 0))) (sizes_verdict most (k + 1) (drop (k + 1) (take p xs)))
sizes_step most p k xs h l = rw (left p k xs h l, add-one)

-- a word of ones, shifted down and cut to the values of a kind
pub whole_word : (size most : ℕ) → size ≤ most → most ≤ 64 → (2 ^ 64 - 1) / 2 ^ (64 - size) % 2 ^ most ≡ whole size
whole_word size most h l =
    ap (λ n. n % 2 ^ most) (Words.whole_word size (omega arith)) ∙ mod-eq_of_lt (omega (arith, pow_mono h, one-le-pow size 2 (omega arith)))

-- a check that passed found nothing
pub passed : (t : Bool) (c : Cause) (v : Verdict) → cond t (Err c) v ≡ Ok tt → (t ≡ false) × (v ≡ Ok tt)
passed true c v e = let z : ◌≡◌ {A = ℕ} 0 1 = cc in absurd (omega arith)
passed false c v e = (refl, e)

-- where the shape passes, each size is in range
sizes_range : (most k j : ℕ) (xs : List ℕ) → sizes_verdict most k xs ≡ Ok tt → j < length xs → (1 ≤ get_or xs j 0) × (get_or xs j 0 ≤ most)
sizes_range most k j [] e h = absurd (omega arith)
sizes_range most k zero (x ∷ xs) e h = let t = (passed (ltb x 1 || ltb most x) _ _ e).0 in (grind (arith, nat_tests), grind (arith, nat_tests))
sizes_range most k (suc j) (x ∷ xs) e h = sizes_range most (suc k) j xs (passed (ltb x 1 || ltb most x) _ _ e).1 (omega arith)

pub shape_few : (most p : ℕ) (xs : List ℕ) → shape_verdict most p xs ≡ Ok tt → p ≤ 16
shape_few most p xs e = let t = (passed (ltb p 1 || ltb 16 p) _ _ e).0 in grind (arith, nat_tests)

pub shape_range : (most p j : ℕ) (xs : List ℕ) → length xs ≡ 16 → shape_verdict most p xs ≡ Ok tt → j < p → (1 ≤ get_or xs j 0) × (get_or xs j 0 ≤ most)
shape_range most p j xs l e h =
    let t = passed (ltb p 1 || ltb 16 p) _ _ e in
    let q = shape_few most p xs e in
    let r = sizes_range most 0 j (take p xs) t.1 (simp length-take (omega arith)) in
    let g = get_or-take p xs j 0 h in
    (rw g at r.0, rw g at r.1)

-- one part more of the universe
pub universe_more : (k : ℕ) (sizes U V : List ℕ) (x : ℕ) → k < length sizes → k < length V → U ≡ universe_of k sizes ++ drop k V → x ≡ whole (get_or sizes k 0)
    → set U k x ≡ universe_of (k + 1) sizes ++ drop (k + 1) V
universe_more k sizes U V x h l e w =
    let n : length (universe_of k sizes) ≡ k = simp (length-map, length-take) (omega arith) in
    let m : universe_of (k + 1) sizes ≡ universe_of k sizes ++ x ∷ [] = map_more whole sizes k 0 h ∙ ap (λ y. universe_of k sizes ++ y ∷ []) (sym w) in
    ap (λ L. set L k x) (e ∙ ap (λ D. universe_of k sizes ++ D) (drop_more V k 0 l))
    ∙ set_at (universe_of k sizes) (get_or V k 0) (drop (k + 1) V) x k n
    ∙ sym (ap (λ L. L ++ drop (k + 1) V) m ∙ append_assoc (universe_of k sizes) (x ∷ []) (drop (k + 1) V))

-- ---- the checks of a row

module _ {X : Type 0} (s : X → ℕ) (xs : List X) (k : ℕ) (x : X) (h : k < length xs) (e : x ≡ get_or xs k x) where
  -- what is left of a row, from a part that was read
  pub row-left : drop k (map s xs) ≡ s x ∷ drop (k + 1) (map s xs)
  row-left =
      let l : k < length (map s xs) = rw length-map h in
      drop_more (map s xs) k 0 l ∙ ap (λ y. y ∷ drop (k + 1) (map s xs)) (get_or-map s xs k x 0 h ∙ ap s (sym e))

-- what is left of a row that words make
pub word_left : (f : ℕ → ℕ) (xs : List ℕ) (k : ℕ) → k < length xs → drop k (map f xs) ≡ f (get_or xs k 0) ∷ drop (k + 1) (map f xs)
word_left f xs k h = row-left f xs k (get_or xs k 0) h (get_or_default xs k 0 (get_or xs k 0) h)

pub empty-step : (f : ℕ → ℕ) (xs : List ℕ) (k : ℕ) → k < length xs
    → empty_verdict k (drop k (map f xs)) ≡ cond (eqb (f (get_or xs k 0)) 0) (Err (Empty k)) (empty_verdict (k + 1) (drop (k + 1) (map f xs)))
empty-step f xs k h = rw (word_left f xs k h, add-one)

pub empty_end : (f : ℕ → ℕ) (xs : List ℕ) (k : ℕ) → length xs ≤ k → empty_verdict k (drop k (map f xs)) ≡ Ok tt
empty_end f xs k h = rw (drop_all k (map f xs) (rw length-map h))

pub outside_step : {X : Type 0} (f : ℕ → ℕ) (s : X → ℕ) (xs : List ℕ) (us : List X) (k : ℕ) (u : X) → k < length xs → k < length us → u ≡ get_or us k u
    → outside_verdict k (drop k (map f xs)) (drop k (map s us))
    ≡ cond (eqb (minus (f (get_or xs k 0)) (s u)) 0) (outside_verdict (k + 1) (drop (k + 1) (map f xs)) (drop (k + 1) (map s us)))
    (Err (Outside k (count_trailing_zeros 64 (minus (f (get_or xs k 0)) (s u)))))
outside_step f s xs us k u h l e = rw (word_left f xs k h, row-left s us k u l e, add-one)

-- where one of them has no part left
pub outside_none : (k : ℕ) (A U : List ℕ) → (length A ≡ 0) ⊎ (length U ≡ 0) → outside_verdict k A U ≡ Ok tt
outside_none k [] U h = refl
outside_none k (a ∷ A) [] h = refl
outside_none k (a ∷ A) (u ∷ U) (inl h) = absurd (omega arith)
outside_none k (a ∷ A) (u ∷ U) (inr h) = absurd (omega arith)

-- ---- a cube beside a row that words make

pub same_all : {X : Type 0} (s : X → ℕ) (f : ℕ → ℕ) (xs : List X) (ws : List ℕ) → length xs ≡ length ws
    → same_parts (map s xs) (map f ws) ≡ list_all (λ (q : X × ℕ). eqb (s q.0) (f q.1)) (zip xs ws)
same_all s f [] [] e = refl
same_all s f [] (w ∷ ws) e = absurd (omega arith)
same_all s f (x ∷ xs) [] e = absurd (omega arith)
same_all s f (x ∷ xs) (w ∷ ws) e = ap (λ b. eqb (s x) (f w) && b) (same_all s f xs ws (omega arith))

-- ---- verdicts one after another

pub then_ok : (v w : Verdict) → v ≡ Ok tt → (v then w) ≡ w
then_ok v w e = ap (λ u. u then w) e

pub then_err : (v w : Verdict) (c : Cause) → v ≡ Err c → (v then w) ≡ Err c
then_err v w c e = ap (λ u. u then w) e

pub area_passed : (area has needed : ℕ) → area_verdict area has needed ≡ Ok tt → needed ≤ has
area_passed area has needed e = ltb-false has needed (passed (ltb has needed) (Area area needed) (Ok tt) e).0

-- cubes that fit an area fit both its sides
pub fits_area : (p parts beside n : ℕ) → 1 ≤ p → n ≤ area_length p parts beside → (n * p ≤ parts) × (n ≤ beside)
fits_area p parts beside n h l = ((le-div_iff_mul-le h).0 (omega arith), omega arith)

-- ---- rows

pub length_rows : (p n : ℕ) (ts : List ℕ) (cs : List Card) → length (rows_of p n ts cs) ≡ n
length_rows p zero ts cs = refl
length_rows p (suc n) ts cs = ap suc (length_rows p n (drop p ts) (drop 1 cs))

pub rows_left : (p n i : ℕ) (ts : List ℕ) (cs : List Card) → i < n
    → drop i (rows_of p n ts cs) ≡ record { cube = cube_at p i ts; on = is_on (get_or cs i blank) } ∷ drop (i + 1) (rows_of p n ts cs)
rows_left p zero i ts cs h = absurd (omega arith)
rows_left p (suc n) zero ts cs h = let e : 0 * p ≡ 0 = omega arith in rw e
rows_left p (suc n) (suc i) ts cs h =
    let e : p + i * p ≡ suc i * p = omega (arith, add-mul i 1 p, add-one i) in
    let f : suc i + 1 ≡ suc (i + 1) = omega arith in
    rw f (rows_left p n i (drop p ts) (drop 1 cs) (omega arith)
    ∙ ap₂ (λ (A : List ℕ) (c : Card). record { cube = take p A; on = is_on c } ∷ drop (i + 1) (rows_of p n (drop p ts) (drop 1 cs)))
    (drop-drop (i * p) p ts ∙ ap (λ m. drop m ts) e) (get_or-drop 1 cs i blank ∙ ap (λ m. get_or cs m blank) (one-add i)))

pub repeat_step : (kind : Kind) (A : Cube) (p n i : ℕ) (ts : List ℕ) (cs : List Card) → i < n
    → repeat_verdict kind A i (drop i (rows_of p n ts cs))
    ≡ cond (beq (is_on (get_or cs i blank)) (is_on_kind kind) && same_parts (cube_at p i ts) A) (Err (Repeat i (kind_number kind)))
    (repeat_verdict kind A (i + 1) (drop (i + 1) (rows_of p n ts cs)))
repeat_step kind A p n i ts cs h = rw (rows_left p n i ts cs h, add-one)

-- the next row is the first that has the same parts, or it is passed
pub repeat_found : (kind : Kind) (A : Cube) (i : ℕ) (r : Row) (T : List Row) → beq r.on (is_on_kind kind) ≡ true → same_parts r.cube A ≡ true
    → repeat_verdict kind A i (r ∷ T) ≡ Err (Repeat i (kind_number kind))
repeat_found kind A i r T k q = rw (k, q)

pub repeat_passed : (kind : Kind) (A : Cube) (i : ℕ) (r : Row) (T : List Row) → (beq r.on (is_on_kind kind) && same_parts r.cube A) ≡ false
    → repeat_verdict kind A i (r ∷ T) ≡ repeat_verdict kind A (suc i) T
repeat_passed kind A i r T t = rw t

-- a row that is added has room
pub then_both : (v w : Verdict) → (v then w) ≡ Ok tt → (v ≡ Ok tt) × (w ≡ Ok tt)
then_both (Ok x) w e = (refl, e)
then_both (Err c) w e = let z : ◌≡◌ {A = ℕ} 0 1 = cc in absurd (omega arith)

pub add_room : (p rows : ℕ) (kind : Kind) (A us ts : List ℕ) (cs : List Card) → 1 ≤ p → add_verdict p rows kind A us ts cs ≡ Ok tt
    → (p ≤ length us) × (rows * p + p ≤ length ts) × (rows < length cs) × (rows < 512)
add_room p rows kind A us ts cs h e =
    let has = area_length p (length ts) (length cs) in
    let full = full_verdict rows has in
    let again = repeat_verdict kind A 0 (rows_of p rows ts cs) then full in
    let beyond = outside_verdict 0 A (take p us) then again in
    let row = empty_verdict 0 A then beyond in
    let first = then_both (area_verdict 1 (length us) p) (area_verdict 2 has rows then row) e in
    let second = then_both (area_verdict 2 has rows) row first.1 in
    let third = then_both (empty_verdict 0 A) beyond second.1 in
    let fourth = then_both (outside_verdict 0 A (take p us)) again third.1 in
    let fifth = then_both (repeat_verdict kind A 0 (rows_of p rows ts cs)) full fourth.1 in
    let t : (leb 512 rows || leb has rows) ≡ false = (passed (leb 512 rows || leb has rows) (Full rows) (Ok tt) fifth.1).0 in
    let l : rows < has = grind (arith, nat_tests) in
    let few : rows < 512 = grind (arith, nat_tests) in
    let f = fits_area p (length ts) (length cs) (rows + 1) h (omega arith) in
    (area_passed 1 (length us) p first.0, omega (arith, f.0, add-mul rows 1 p, one-mul p), omega arith, few)
