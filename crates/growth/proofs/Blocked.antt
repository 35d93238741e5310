-- The values that block a part, gathered from one cube after another.
use Rattle.std.proofs.Common.{◌≡◌, ℕ, zero, suc, ◌+◌, ◌%◌, ◌^◌, ◌<◌, ◌≤◌, true, false, cond, not, ◌&&◌, ltb, List, [], ◌∷◌, ◌++◌, map, length, get_or, take, set, Some, None, Option, sym, ap, ap₂, ◌∙◌, ⊎_elim, arith}
use lib.Bits.{bit_or, or_zero_l, or_zero_r}
use Rattle.std.proofs.lemmas.List.FromFn.{fill_by_all, get_or-map-range_with_len, length-range_with_len}
use Rattle.std.proofs.lemmas.List.{get_or-set_same, get_or-set_other, length-take, length-map, length-set, map-set, take_all, take_more, take_more_set}
use Rattle.std.proofs.lemmas.Bool.{cases_eq, cases_Bool}
use Rattle.std.proofs.lemmas.Bool.Decides.{nat_tests}
use Rattle.parts.specs.Sets.{has, minus}
use Rattle.parts.proofs.Bits.{has-or, has-minus, has_low, has_past, has-none, same}
use Rattle.cubes.specs.Areas.{cube_at, cubes}
use Rattle.cubes.specs.Cubes.{Cube, Cover, meets}
use Rattle.cubes.proofs.Areas.{length-cubes, get_or-cubes}
use Rattle.moves.specs.Widen.{touches, beside, blocked}
use Rattle.moves.specs.Expand.{over}
use Rattle.growth.specs.Missed.{only_missed, is_at}
use Rattle.growth.proofs.Missed.{only_beside}

-- ---- sets

or_assoc : (a b c : ℕ) → bit_or (bit_or a b) c ≡ bit_or a (bit_or b c)
or_assoc a b c = same _ _ (λ v. grind (arith, has-or (bit_or a b) c v, has-or a b v, has-or a (bit_or b c) v, has-or b c v))

-- values past the most do not matter
pub minus_low : (most a w : ℕ) → a < 2 ^ most → minus a (w % 2 ^ most) ≡ minus a w
minus_low most a w h =
    same _ _ (λ v. has-minus a (w % 2 ^ most) v ∙ rw (has_low most w v) (⊎_elim (by v) (past v) (cases_Bool (ltb v most))) ∙ sym (has-minus a w v))
  where
    by : (v : ℕ) → ltb v most ≡ true → (has a v && not (ltb v most && has w v)) ≡ (has a v && not (has w v))
    by v e = rw e

    past : (v : ℕ) → ltb v most ≡ false → (has a v && not (ltb v most && has w v)) ≡ (has a v && not (has w v))
    past v e = let l : most ≤ v = grind (arith, nat_tests) in let n : has a v ≡ false = has_past most a v h l in rw n

-- ---- one cube more

pub blocked_push : (k : ℕ) (f : Cube) (R : Cover) (r : Cube) → blocked k f (R ++ r ∷ []) ≡ bit_or (blocked k f R) (cond (beside k f r) (get_or r k 0) 0)
blocked_push k f [] r = or_zero_r _ ∙ sym (or_zero_l _)
blocked_push k f (c ∷ R) r =
    let a = cond (beside k f c) (get_or c k 0) 0 in
    ap (bit_or a) (blocked_push k f R r) ∙ sym (or_assoc a (blocked k f R) (cond (beside k f r) (get_or r k 0) 0))

touches_at : (f : Cube) (R : Cover) (i : ℕ) → touches f R ≡ false → i < length R → meets f (get_or R i []) ≡ false
touches_at f [] i h l = absurd (omega arith)
touches_at f (r ∷ R) zero h l = grind (arith, nat_tests)
touches_at f (r ∷ R) (suc i) h l = touches_at f R i (grind (arith, nat_tests)) (omega arith)

pub touches_cube : (p n i : ℕ) (f : Cube) (X : List ℕ) → touches f (cubes p n X) ≡ false → i < n → meets f (cube_at p i X) ≡ false
touches_cube p n i f X h l = sym (ap (meets f) (get_or-cubes p n i X l)) ∙ touches_at f (cubes p n X) i h (rw length-cubes l)

-- ---- all parts at once

-- what is in no off cube is as it was
minus_none : (a : ℕ) → minus a 0 ≡ a
minus_none a = same _ _ (λ v. grind (arith, has-minus a 0 v, has-none v))

minus_or : (a b c : ℕ) → minus (minus a b) c ≡ minus a (bit_or b c)
minus_or a b c = same _ _ (λ v. grind (arith, has-minus (minus a b) c v, has-minus a b v, has-minus a (bit_or b c) v, has-or b c v))

module _ (U f : Cube) where
  pub over_none : length U ≡ length f → U ≡ over U f []
  over_none e = fill_by_all (λ k. minus (get_or U k 0) 0) U (length f) 0 e (λ k l. sym (minus_none (get_or U k 0)))

  module _ (R : Cover) (r : Cube) (size : length f ≡ length r) (apart : meets f r ≡ false) where
    -- one off cube more
    one : (o : Option ℕ) → only_missed 0 f r ≡ o → (k : ℕ) → k < length f → blocked k f (R ++ r ∷ []) ≡ bit_or (blocked k f R) (cond (is_at k o) (get_or r k 0) 0)
    one o e k h = blocked_push k f R r ∙ ap (λ b. bit_or (blocked k f R) (cond b (get_or r k 0) 0)) (only_beside k f r size h apart ∙ ap (is_at k) e)

    at : (k : ℕ) → k < length f → get_or (over U f R) k 0 ≡ minus (get_or U k 0) (blocked k f R)
    at k h = get_or-map-range_with_len (λ i. minus (get_or U i 0) (blocked i f R)) 0 (length f) k k 0 h (omega arith)

    size_over : length (over U f R) ≡ length f
    size_over = simp (length-map, length-range_with_len)

    pub over-passed : only_missed 0 f r ≡ None → over U f R ≡ over U f (R ++ r ∷ [])
    over-passed e =
        fill_by_all (λ k. minus (get_or U k 0) (blocked k f (R ++ r ∷ []))) (over U f R) (length f) 0 size_over
        (λ k l. at k l ∙ ap (minus (get_or U k 0)) (sym (one None e k l ∙ or_zero_r (blocked k f R))))

    pub over-less : (k : ℕ) → only_missed 0 f r ≡ Some k → k < length f → set (over U f R) k (minus (get_or (over U f R) k 0) (get_or r k 0)) ≡ over U f (R ++ r ∷ [])
    over-less k e h =
        let v = minus (get_or (over U f R) k 0) (get_or r k 0) in
        fill_by_all (λ i. minus (get_or U i 0) (blocked i f (R ++ r ∷ []))) (set (over U f R) k v) (length f) 0 (length-set (over U f R) k v ∙ size_over)
        (λ i l. ⊎_elim
        (λ (q : i ≡ k).
        let here : is_at k (Some k) ≡ true = grind (arith, nat_tests) in
        let inside : k < length (over U f R) = omega (arith, size_over) in
        ap (λ n. get_or (set (over U f R) k v) n 0) q
        ∙ get_or-set_same (over U f R) k v 0 inside
        ∙ ap (λ n. minus n (get_or r k 0)) (at k h)
        ∙ minus_or (get_or U k 0) (blocked k f R) (get_or r k 0)
        ∙ ap (minus (get_or U k 0)) (sym (one (Some k) e k h ∙ ap (λ b. bit_or (blocked k f R) (cond b (get_or r k 0) 0)) here))
        ∙ ap (λ n. minus (get_or U n 0) (blocked n f (R ++ r ∷ []))) (sym q))
        (λ (q : i ≡ k → ⊥).
        let elsewhere : is_at i (Some k) ≡ false = grind (arith, nat_tests) in
        get_or-set_other (over U f R) k i v 0 q
        ∙ at i l
        ∙ ap (minus (get_or U i 0)) (sym (one (Some k) e i l ∙ ap (λ b. bit_or (blocked i f R) (cond b (get_or r i 0) 0)) elsewhere ∙ or_zero_r (blocked i f R))))
        (cases_eq i k))

-- ---- written part by part, where word and s give the set of a part

module _ {X Y : Type 0} (word : Y → ℕ) (s : X → ℕ) where
  -- one part more of the universe
  pub start_more : (us : List X) (k : ℕ) (v : Y) (ws : List Y) → k < length ws → k < length us → take k (map word ws) ≡ take k (map s us) → word v ≡ get_or (map s us) k 0
      → take (k + 1) (map word (set ws k v)) ≡ take (k + 1) (map s us)
  start_more us k v ws h l inv e =
      let n : k < length (map word ws) = rw length-map h in
      let m : k < length (map s us) = rw length-map l in
      ap (take (k + 1)) (map-set word ws k v)
      ∙ take_more_set (map word ws) k (word v) n ∙ ap₂ (λ (A : List ℕ) (i : ℕ). A ++ i ∷ []) inv e ∙ sym (take_more (map s us) k 0 m)

  -- the universe, before any off cube is looked at
  pub over_start : (us : List X) (p : ℕ) (ws : List Y) (f : List X) → p ≤ length us → length f ≡ p → length ws ≡ p → take p (map word ws) ≡ take p (map s us)
      → map word ws ≡ over (take p (map s us)) (map s f) []
  over_start us p ws f h e l inv =
      let n : length (map word ws) ≤ p = rw length-map (omega arith) in
      sym (take_all p (map word ws) n) ∙ inv ∙ over_none (take p (map s us)) (map s f) (simp (length-take, length-map) (omega arith))

  -- part k loses the values of an off cube
  pub over_step : (U f : Cube) (R : Cover) (ws : List Y) (r : List X) (k : ℕ) (v : Y) → map word ws ≡ over U f R → length f ≡ length r → meets f (map s r) ≡ false
      → only_missed 0 f (map s r) ≡ Some k → k < length f → word v ≡ minus (get_or (map word ws) k 0) (get_or (map s r) k 0) → map word (set ws k v) ≡ over U f (R ++ map s r ∷ [])
  over_step U f R ws r k v inv size apart e h q =
      map-set word ws k v
      ∙ ap₂ (λ (A : List ℕ) (n : ℕ). set A k n) inv (q ∙ ap (λ (A : Cube). minus (get_or A k 0) (get_or (map s r) k 0)) inv)
      ∙ over-less U f R (map s r) (size ∙ sym (length-map r s)) apart k e h
