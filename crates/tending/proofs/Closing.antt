-- Cubes close up with their cards.
use Rattle.std.proofs.Common.{◌≡◌, ℕ, suc, ◌+◌, ◌-◌, ◌*◌, ◌<◌, ◌≤◌, true, false, cond, eqb, ◌⊎◌, List, [], ◌∷◌, ◌++◌, map, length, get_or, take, drop, set, sym, ap, ◌∙◌, ap₂, inl, inr, ⊎_elim, add-zero, arith}
use lib.Seq.{paste}
use Rattle.std.proofs.lemmas.List.{append-nil, append_assoc, take-map, drop-map, drop-drop, drop_at, take_at, get_or-drop, length-map, length-take, length-drop, length-set, get_or-set_same, get_or-set_other, drop-set-lt, take_more_set}
use Rattle.std.proofs.lemmas.Bool.{cases_lt, eq-eqb, ne_eqb}
use Rattle.std.proofs.Math.Bool.{or-true}
use Rattle.cubes.specs.Cubes.{Cube, covers}
use Rattle.cubes.specs.Areas.{cube_at, put_at}
use Rattle.cubes.proofs.Areas.{place_below, map-put, map-cube_at, length-cube_at}
use Rattle.moves.specs.Items.{Item, no_item}
use Rattle.table.specs.declared.card.Card.{Card}
use Rattle.table.specs.Cards.{blank}
use Rattle.tending.specs.Items.{items_of, stays, spared_but}
use Rattle.tending.proofs.Places.{places_between, get_or-items, items_put, take_items, drop_items, items_split, items_front}
use Rattle.tending.proofs.Spared.{but_more}

-- ---- one item is copied

pasted : {X : Type 0} (p from to : ℕ) (xs : List X) → paste xs (to * p) (drop (from * p) xs) p ≡ put_at p to (cube_at p from xs) xs
pasted p from to xs =
    append_assoc (take (to * p) xs) (take p (drop (from * p) xs)) (drop (to * p + p) xs)
    ∙ ap (λ l. take (to * p) xs ++ (cube_at p from xs ++ l)) (sym (drop-drop p (to * p) xs))

pub moved_items : {X : Type 0} (s : X → ℕ) (p n : ℕ) (xs : List X) (C : List Card) → n * p ≤ length xs → n ≤ length C → (from to : ℕ) → from < n → to < n
    → let L = items_of p n (map s xs) C in
    items_of p n (map s (paste xs (to * p) (drop (from * p) xs) p)) (set C to (get_or C from blank)) ≡ set L to (get_or L from no_item)
moved_items s p n xs C fits beside from to f t =
    let S = map s xs in
    let L = items_of p n S C in
    let long : n * p ≤ length S = omega (arith, length-map xs s) in
    let c : length (cube_at p from S) ≡ p = length-cube_at p from S (omega (arith, place_below from n p f)) in
    let sets : map s (paste xs (to * p) (drop (from * p) xs) p) ≡ put_at p to (cube_at p from S) S =
    ap (map s) (pasted p from to xs) ∙ map-put s p to (cube_at p from xs) xs ∙ ap (λ d. put_at p to d S) (map-cube_at s p from xs) in
    ap (λ T. items_of p n T (set C to (get_or C from blank))) sets
    ∙ items_put p n S C long beside to t (cube_at p from S) (get_or C from blank) c
    ∙ ap (set L to) (sym (get_or-items p n from S C f))

-- ---- one item is taken out

-- what is before a place is not pasted over, and what was pasted is there
module _ {X : Type 0} (xs ys : List X) (at n : ℕ) (within : at ≤ length xs) (all : n ≤ length ys) where
  front : length (take at xs) ≡ at
  front = simp length-take (omega arith)

  joined : paste xs at ys n ≡ take at xs ++ (take n ys ++ drop (at + n) xs)
  joined = append_assoc (take at xs) (take n ys) (drop (at + n) xs)

  pub before_paste : take at (paste xs at ys n) ≡ take at xs
  before_paste = ap (take at) joined ∙ take_at (take at xs) (take n ys ++ drop (at + n) xs) at front

  pub at_paste : take n (drop at (paste xs at ys n)) ≡ take n ys
  at_paste =
      let size : length (take n ys) ≡ n = simp length-take (omega arith) in
      ap (λ l. take n (drop at l)) joined ∙ ap (take n) (drop_at (take at xs) (take n ys ++ drop (at + n) xs) at front) ∙ take_at (take n ys) (drop (at + n) xs) n size

pub taken_out : {X : Type 0} (s : X → ℕ) (p n i : ℕ) (xs : List X) (C : List Card) → n * p ≤ length xs → n ≤ length C → i < n
    → let L = items_of p n (map s xs) C in
    items_of p (n - 1) (map s (paste xs (i * p) (drop ((i + 1) * p) xs) (n * p - (i + 1) * p))) (paste C i (drop (i + 1) C) (n - (i + 1))) ≡ take i L ++ drop (suc i) L
taken_out s p n i xs C fits beside h =
    let S = map s xs in
    let L = items_of p n S C in
    let k : ℕ = n - (i + 1) in
    let ys = drop ((i + 1) * p) xs in
    let m : ℕ = n * p - (i + 1) * p in
    let T = paste xs (i * p) ys m in
    let D = paste C i (drop (i + 1) C) k in
    let size : i + k ≡ n - 1 = omega arith in
    let one : i + 1 ≡ suc i = omega arith in
    let q : m ≡ k * p = places_between p (i + 1) n (omega arith) in
    let here : i * p ≤ length xs = omega (arith, place_below i n p h) in
    let all : m ≤ length ys = simp length-drop (omega arith) in
    let within : i ≤ length C = omega arith in
    let others : k ≤ length (drop (i + 1) C) = simp length-drop (omega arith) in
    let before : take (i * p) (map s T) ≡ take (i * p) S = take-map s (i * p) T ∙ ap (map s) (before_paste xs ys (i * p) m here all) ∙ sym (take-map s (i * p) xs) in
    let later : take (k * p) (drop (i * p) (map s T)) ≡ take (k * p) (drop ((i + 1) * p) S) =
    ap (take (k * p)) (drop-map s (i * p) T)
    ∙ take-map s (k * p) (drop (i * p) T)
    ∙ ap (map s) (ap (λ a. take a (drop (i * p) T)) (sym q) ∙ at_paste xs ys (i * p) m here all ∙ ap (λ a. take a ys) q)
    ∙ sym (take-map s (k * p) ys)
    ∙ ap (take (k * p)) (sym (drop-map s ((i + 1) * p) xs)) in
    ap (λ a. items_of p a (map s T) D) (sym size)
    ∙ items_split p i k (map s T) D
    ∙ ap₂ (λ (A B : List Item). A ++ B)
    (items_front p i (map s T) S D C before (before_paste C (drop (i + 1) C) i k within others) ∙ sym (take_items p n i S C (omega arith)))
    (items_front p k (drop (i * p) (map s T)) (drop ((i + 1) * p) S) (drop i D) (drop (i + 1) C) later (at_paste C (drop (i + 1) C) i k within others)
    ∙ sym (drop_items p n (i + 1) S C (omega arith))
    ∙ ap (λ a. drop a L) one)

-- ---- the items that stay

pub stays_here : (g : Cube) (at i : ℕ) (c : Cube) → i ≡ at → stays g at i c ≡ true
stays_here g at i c e = rw (eq-eqb i at e)

pub stays_free : (g : Cube) (at i : ℕ) (c : Cube) → covers g c ≡ false → stays g at i c ≡ true
stays_free g at i c e = rw e (or-true (eqb i at))

pub goes : (g : Cube) (at i : ℕ) (c : Cube) → (i ≡ at → ⊥) → covers g c ≡ true → stays g at i c ≡ false
goes g at i c ne e = rw (ne_eqb i at ne, e)

-- what lies from a place on is the same from the next on
pub same_after : {X : Type 0} (i : ℕ) (xs ys : List X) → drop i xs ≡ drop i ys → drop (i + 1) xs ≡ drop (i + 1) ys
same_after i xs ys e = sym (drop-drop 1 i xs) ∙ ap (drop 1) e ∙ drop-drop 1 i ys

pub same_at : {X : Type 0} (i : ℕ) (xs ys : List X) (d : X) → drop i xs ≡ drop i ys → get_or xs i d ≡ get_or ys i d
same_at {X} i xs ys d e =
    let at : (l : List X) → get_or (drop i l) 0 d ≡ get_or l i d = λ l. get_or-drop i l 0 d ∙ ap (λ m. get_or l m d) (add-zero i) in
    sym (at xs) ∙ ap (λ l. get_or l 0 d) e ∙ at ys

-- Of the first i items the k that stay stand at the start of M, which was L; behind i it is as it was.
abbrev pub Kept : Cube → ℕ → List Item → List Item → ℕ → ℕ → Type 0
Kept g at L M k i = (take k M ≡ spared_but g at (take i L)) × (drop i M ≡ drop i L) × (k ≤ i)

module _ (g : Cube) (at : ℕ) (L M : List Item) (k i : ℕ) (l : i < length L) (m : i < length M) (inv : Kept g at L M k i) where
  pub kept_more : stays g at i (get_or M i no_item).cube ≡ true → Kept g at L (set M k (get_or M i no_item)) (k + 1) (i + 1)
  kept_more h =
      let x = get_or M i no_item in
      let e : x ≡ get_or L i no_item = same_at i M L no_item inv.1 in
      let le = inv.2 in
      let b : stays g at i (get_or L i no_item).cube ≡ true = ap (λ (y : Item). stays g at i y.cube) (sym e) ∙ h in (
        take_more_set M k x (omega arith)
            ∙ ap₂ (λ (A : List Item) (y : Item). A ++ y ∷ []) inv.0 e
            ∙ ap (λ t. spared_but g at (take i L) ++ cond t (get_or L i no_item ∷ []) []) (sym b)
            ∙ sym (but_more g at L i l),
        drop-set-lt (i + 1) M k x (omega arith) ∙ same_after i M L inv.1,
        omega arith,
      )

  pub kept_less : stays g at i (get_or M i no_item).cube ≡ false → Kept g at L M k (i + 1)
  kept_less h =
      let e : get_or M i no_item ≡ get_or L i no_item = same_at i M L no_item inv.1 in
      let le = inv.2 in
      let b : stays g at i (get_or L i no_item).cube ≡ false = ap (λ (y : Item). stays g at i y.cube) (sym e) ∙ h in (
        inv.0
            ∙ sym (append-nil (spared_but g at (take i L)))
            ∙ ap (λ t. spared_but g at (take i L) ++ cond t (get_or L i no_item ∷ []) []) (sym b)
            ∙ sym (but_more g at L i l),
        same_after i M L inv.1,
        omega arith,
      )

-- The cube g, which was at `at`, stands at `lead` in M.
abbrev pub Leads : Cube → ℕ → List Item → ℕ → ℕ → ℕ → Type 0
Leads g at M lead k i = (((i ≤ at) × (lead ≡ at)) ⊎ ((at < i) × (lead < k))) × ((get_or M lead no_item).cube ≡ g) × (lead < length M)

module _ (g : Cube) (at : ℕ) (M : List Item) (lead k i : ℕ) (le : k ≤ i) (m : i < length M) (inv : Leads g at M lead k i) where
  -- the cube itself is copied
  pub leads_moved : i ≡ at → Leads g at (set M k (get_or M i no_item)) k (k + 1) (i + 1)
  leads_moved e =
      let x = get_or M i no_item in
      let long = length-set M k x in (
        inr (omega arith, omega arith),
        ap (λ (y : Item). y.cube) (get_or-set_same M k x no_item (omega arith)) ∙ ⊎_elim (λ h. ap (λ j. (get_or M j no_item).cube) (e ∙ sym h.1) ∙ inv.1) (λ h. absurd (omega (arith, h.0))) inv.0,
        omega arith,
      )

  -- another is copied
  pub leads_more : (i ≡ at → ⊥) → Leads g at (set M k (get_or M i no_item)) lead (k + 1) (i + 1)
  leads_more ne =
      let x = get_or M i no_item in
      let long = length-set M k x in
      let there : (lead ≡ k → ⊥) → (get_or (set M k x) lead no_item).cube ≡ g =
      λ no. ap (λ (y : Item). y.cube) (get_or-set_other M k lead x no_item no) ∙ inv.1 in
      ⊎_elim
      (λ (h : (i ≤ at) × (lead ≡ at)).
      let a = h.0 in let b = h.1 in
      (inl (omega arith, b), there (λ z. ne (omega arith)), omega arith))
      (λ (h : (at < i) × (lead < k)).
      let a = h.0 in let b = h.1 in
      (inr (omega arith, omega arith), there (λ z. omega arith), omega arith))
      inv.0

  -- one is passed over
  pub leads_less : (i ≡ at → ⊥) → Leads g at M lead k (i + 1)
  leads_less ne =
      ⊎_elim
      (λ (h : (i ≤ at) × (lead ≡ at)). let a = h.0 in let l : i + 1 ≤ at = ⊎_elim (λ (b : i < at). omega arith) (λ (b : at ≤ i). absurd (ne (omega arith))) (cases_lt i at) in (inl (l, h.1), inv.1, inv.2))
      (λ (h : (at < i) × (lead < k)). let a = h.0 in (inr (omega arith, h.1), inv.1, inv.2))
      inv.0
