-- The ON rows, one row after another.
use Rattle.std.proofs.Common.{◌≡◌, ℕ, zero, suc, ◌+◌, ◌*◌, ◌<◌, ◌≤◌, Bool, true, false, cond, List, [], ◌∷◌, ◌++◌, length, get_or, take, drop, set, filter, replicate, sym, refl, ap, ◌∙◌, ap₂, mul-le-mul_right, arith}
use Rattle.std.proofs.lemmas.List.{drop-drop, length-replicate, take-append-drop, append_assoc, take_more_set, replicate_more, drop-set-lt, length-take-le, append-nil}
use Rattle.std.proofs.lemmas.Slice.{take-put_mid, drop-put_mid}
use Rattle.cubes.specs.Areas.{flat, overlay, put_at}
use Rattle.cubes.proofs.Areas.{next_place}
use Rattle.table.specs.declared.card.Card.{Card}
use Rattle.table.specs.Cards.{blank, is_on, on_count, on_cubes}
use Rattle.table.proofs.Beside.{on_beside}

one_more : (c : Card) (C : List Card) (t : Bool) → length (cond t (c ∷ C) C) ≡ cond t 1 0 + length C
one_more c C true = omega arith
one_more c C false = omega arith

-- the ON cards, counted
pub on_filter : (cs : List Card) → length (filter is_on cs) ≡ on_count (length cs) cs
on_filter [] = refl
on_filter (c ∷ cs) = one_more c (filter is_on cs) (is_on c) ∙ ap (λ m. cond (is_on c) 1 0 + m) (on_filter cs)

-- the ON cards among the first n
pub on_taken : (n : ℕ) (cs : List Card) → n ≤ length cs → on_count (length (take n cs)) (take n cs) ≡ on_count n cs
on_taken zero cs h = refl
on_taken (suc n) [] h = absurd (omega arith)
on_taken (suc n) (c ∷ cs) h = ap (λ m. cond (is_on c) 1 0 + m) (on_taken n cs (omega arith))

more_on : {X : Type 0} (c : X) (C : List X) (m : ℕ) (t : Bool) → length C ≡ m → length (cond t (c ∷ C) C) ≡ cond t 1 0 + m
more_on c C m true e = omega arith
more_on c C m false e = omega arith

pub length-on_cubes : {X : Type 0} (p n : ℕ) (ts : List X) (cs : List Card) → length (on_cubes p n ts cs) ≡ on_count n cs
length-on_cubes p zero ts cs = refl
length-on_cubes p (suc n) ts cs = more_on _ (on_cubes p n (drop p ts) (drop 1 cs)) _ (is_on (get_or cs 0 blank)) (length-on_cubes p n (drop p ts) (drop 1 cs))

-- one cube more of the solution
module _ {X : Type 0} (p on : ℕ) (c S : List X) (fits : on * p + p ≤ length S) (size : length c ≡ p) where
  pub solution_more : take ((on + 1) * p) (put_at p on c S) ≡ take (on * p) S ++ c
  solution_more = take-put_mid (on * p) p S c ((on + 1) * p) (omega (arith, next_place on p)) (omega arith)

  pub solution-left : (E : List X) → drop (on * p) S ≡ drop (on * p) E → drop ((on + 1) * p) (put_at p on c S) ≡ drop ((on + 1) * p) E
  solution-left E e =
      let n = next_place on p in
      drop-put_mid (on * p) p S c ((on + 1) * p) (omega arith) (omega arith) size
      ∙ ap (λ m. drop m S) n ∙ sym (drop-drop p (on * p) S) ∙ ap (drop p) e ∙ drop-drop p (on * p) E ∙ ap (λ m. drop m E) (sym n)

-- one card more
module _ (on : ℕ) (N : List Card) (fits : on < length N) where
  pub cards_more : take on N ≡ replicate on blank → take (on + 1) (set N on blank) ≡ replicate (on + 1) blank
  cards_more e = take_more_set N on blank fits ∙ ap (λ L. L ++ blank ∷ []) e ∙ replicate_more on blank

  pub cards-left : (E : List Card) → drop on N ≡ drop on E → drop (on + 1) (set N on blank) ≡ drop (on + 1) E
  cards-left E e = drop-set-lt (on + 1) N on blank (omega arith) ∙ sym (drop-drop 1 on N) ∙ ap (drop 1) e ∙ drop-drop 1 on E

-- what is written from the start, and what stays
pub overlay_is : {X : Type 0} (n : ℕ) (ys S E : List X) → length ys ≡ n → take n S ≡ ys → drop n S ≡ drop n E → S ≡ overlay ys E
overlay_is n ys S E l t d = sym (take-append-drop n S) ∙ ap₂ (λ a b. a ++ b) t (d ∙ ap (λ m. drop m E) (sym l))

-- a place for one more
pub on_room : (p on more all m : ℕ) → on + (1 + more) ≡ all → all * p ≤ m → on * p + p ≤ m
on_room p on more all m e l = omega (arith, next_place on p, mul-le-mul_right {m = on + 1} {n = all} p (omega arith))

-- Of the ON rows `all`, on in number are copied to the solution S and its cards N, which were E and F; the cubes C with the cards cs are still to come.
abbrev pub Copying : {X : Type 0} → ℕ → List (List X) → List X → List Card → List (List X) → List Card → ℕ → List X → List Card → Type 0
Copying p all E F C cs on S N =
    (on + length (on_beside C cs) ≡ length all)
    × (take (on * p) S ++ flat (on_beside C cs) ≡ flat all)
    × (drop (on * p) S ≡ drop (on * p) E)
    × (take on N ≡ replicate on blank)
    × (drop on N ≡ drop on F)

module _ {X : Type 0} (p : ℕ) (all : List (List X)) (E : List X) (F : List Card) (c : List X) (C : List (List X)) (k : Card) (cs : List Card) (on : ℕ) (S : List X) (N : List Card) (inv : Copying p all E F (c ∷ C) (k ∷ cs) on S N) where
  on_next : is_on k ≡ true → on_beside (c ∷ C) (k ∷ cs) ≡ c ∷ on_beside C cs
  on_next t = ap (λ b. cond b (c ∷ on_beside C cs) (on_beside C cs)) t

  -- there is a place for one more
  pub copying_room : is_on k ≡ true → length all * p ≤ length S → on * p + p ≤ length S
  copying_room t h = on_room p on (length (on_beside C cs)) (length all) (length S) (omega (arith, inv.0, ap length (on_next t))) h

  pub copying-card : is_on k ≡ true → length all ≤ length N → on < length N
  copying-card t h = omega (arith, inv.0, ap length (on_next t))

  pub copying_on : is_on k ≡ true → length c ≡ p → on * p + p ≤ length S → on < length N → Copying p all E F C cs (on + 1) (put_at p on c S) (set N on blank)
  copying_on t size fits room =
      let R = on_beside C cs in (
        omega (arith, inv.0, ap length (on_next t)),
        ap (λ L. L ++ flat R) (solution_more p on c S fits size) ∙ append_assoc (take (on * p) S) c (flat R) ∙ ap (λ D. take (on * p) S ++ flat D) (sym (on_next t)) ∙ inv.1,
        solution-left p on c S fits size E inv.2,
        cards_more on N room inv.3,
        cards-left on N room F inv.4,
      )

pub copying_none : {X : Type 0} (p : ℕ) (C : List (List X)) (cs : List Card) (E : List X) (F : List Card) → Copying p (on_beside C cs) E F C cs 0 E F
copying_none p C cs E F = let e : 0 * p ≡ 0 = omega arith in rw e (omega arith, refl, refl, refl, refl)

pub copying_all : {X : Type 0} (p : ℕ) (all : List (List X)) (E : List X) (F : List Card) (C : List (List X)) (cs : List Card) (on : ℕ) (S : List X) (N : List Card)
    → on_beside C cs ≡ [] → length all * p ≤ length S → length all ≤ length N → Copying p all E F C cs on S N
    → (on ≡ length all) × (S ≡ overlay (flat all) E) × (N ≡ overlay (replicate (length all) blank) F)
copying_all p all E F C cs on S N none l m inv =
    let count : on ≡ length all = omega (arith, inv.0, ap length none) in
    let done : take (on * p) S ≡ flat all = sym (append-nil (take (on * p) S)) ∙ ap (λ D. take (on * p) S ++ flat D) (sym none) ∙ inv.1 in
    let long : on * p ≤ length S = rw count l in
    let size : length (flat all) ≡ on * p = ap length (sym done) ∙ length-take-le (on * p) S long in (
      count,
      overlay_is (on * p) (flat all) S E size done inv.2,
      overlay_is on (replicate (length all) blank) N F (length-replicate (length all) blank ∙ sym count) (inv.3 ∙ ap (λ k. replicate k blank) count) inv.4,
    )
