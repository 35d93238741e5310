-- The items of a solution, by place.
use Rattle.std.proofs.Common.{◌≡◌, ℕ, zero, suc, ◌+◌, ◌-◌, ◌*◌, ◌<◌, ◌≤◌, ◌≢◌, List, ◌∷◌, ◌++◌, length, get_or, take, drop, set, sym, refl, ap, ◌∙◌, ⊎_elim, mul-le-mul_right, add-mul, arith}
use Rattle.std.proofs.lemmas.List.{drop-drop, drop-take, drop_at, take-take, get_or-take, get_or-drop, length-set, get_or-set_same, get_or-set_other, ext_get_or}
use Rattle.std.proofs.lemmas.Bool.{cases_order}
use Rattle.cubes.specs.Areas.{cube_at, cubes, put_at}
use Rattle.cubes.proofs.Areas.{next_place, place_below, cube_at-put, cube_at-put_above, cube_at-put_below}
use Rattle.moves.specs.Items.{Item, no_item, cubes_of}
use Rattle.table.specs.declared.card.Card.{Card}
use Rattle.table.specs.Cards.{blank}
use Rattle.tending.specs.Items.{item_of, items_of}

pub length_items : (p n : ℕ) (S : List ℕ) (C : List Card) → length (items_of p n S C) ≡ n
length_items p zero S C = refl
length_items p (suc n) S C = ap suc (length_items p n (drop p S) (drop 1 C))

-- the cubes of the items
pub cubes_items : (p n : ℕ) (S : List ℕ) (C : List Card) → cubes_of (items_of p n S C) ≡ cubes p n S
cubes_items p zero S C = refl
cubes_items p (suc n) S C = ap (λ D. take p S ∷ D) (cubes_items p n (drop p S) (drop 1 C))

-- places in front of places
pub places_within : (p n m : ℕ) → n ≤ m → n * p ≤ m * p
places_within p n m h = mul-le-mul_right {m = n} {n = m} p h

pub places_between : (p n m : ℕ) → n ≤ m → m * p - n * p ≡ (m - n) * p
places_between p n m h = let e : n + (m - n) ≡ m = omega arith in omega (arith, add-mul n (m - n) p, ap (λ k. k * p) e)

suc_place : (i p : ℕ) → suc i * p ≡ p + i * p
suc_place i p = let e : suc i ≡ i + 1 = omega arith in omega (arith, next_place i p, ap (λ m. m * p) e)

pub get_or-items : (p n i : ℕ) (S : List ℕ) (C : List Card) → i < n → get_or (items_of p n S C) i no_item ≡ item_of (cube_at p i S) (get_or C i blank)
get_or-items p zero i S C h = absurd (omega arith)
get_or-items p (suc n) zero S C h = let e : 0 * p ≡ 0 = omega arith in rw e
get_or-items p (suc n) (suc i) S C h =
    let cube : cube_at p i (drop p S) ≡ cube_at p (suc i) S = ap (take p) (drop-drop (i * p) p S ∙ ap (λ m. drop m S) (sym (suc_place i p))) in
    let e : 1 + i ≡ suc i = omega arith in
    let card : get_or (drop 1 C) i blank ≡ get_or C (suc i) blank = get_or-drop 1 C i blank ∙ ap (λ m. get_or C m blank) e in
    get_or-items p n i (drop p S) (drop 1 C) (omega arith) ∙ rw (cube, card)

-- items are known by their places
pub same_items : (p n : ℕ) (S : List ℕ) (C : List Card) (L : List Item) → length L ≡ n
    → ((i : ℕ) → i < n → item_of (cube_at p i S) (get_or C i blank) ≡ get_or L i no_item) → items_of p n S C ≡ L
same_items p n S C L e at =
    let l = length_items p n S C in
    ext_get_or no_item (items_of p n S C) L (l ∙ sym e) (λ i h. let k : i < n = omega arith in get_or-items p n i S C k ∙ at i k)

pub take_items : (p n r : ℕ) (S : List ℕ) (C : List Card) → r ≤ n → take r (items_of p n S C) ≡ items_of p r S C
take_items p n zero S C h = refl
take_items p zero (suc r) S C h = absurd (omega arith)
take_items p (suc n) (suc r) S C h = ap (λ L. item_of (take p S) (get_or C 0 blank) ∷ L) (take_items p n r (drop p S) (drop 1 C) (omega arith))

-- the first items and the others
pub items_split : (p a b : ℕ) (S : List ℕ) (C : List Card) → items_of p (a + b) S C ≡ items_of p a S C ++ items_of p b (drop (a * p) S) (drop a C)
items_split p zero b S C = let e : 0 * p ≡ 0 = omega arith in let f : 0 + b ≡ b = omega arith in rw (e, f)
items_split p (suc a) b S C =
    let f : suc a + b ≡ suc (a + b) = omega arith in
    let cubes : drop (a * p) (drop p S) ≡ drop (suc a * p) S = drop-drop (a * p) p S ∙ ap (λ m. drop m S) (sym (suc_place a p)) in
    let g : 1 + a ≡ suc a = omega arith in
    let cards : drop a (drop 1 C) ≡ drop (suc a) C = drop-drop a 1 C ∙ ap (λ m. drop m C) g in
    rw f (ap (λ L. item_of (take p S) (get_or C 0 blank) ∷ L) (items_split p a b (drop p S) (drop 1 C) ∙ rw (cubes, cards)))

pub drop_items : (p n r : ℕ) (S : List ℕ) (C : List Card) → r ≤ n → drop r (items_of p n S C) ≡ items_of p (n - r) (drop (r * p) S) (drop r C)
drop_items p n r S C h =
    let e : r + (n - r) ≡ n = omega arith in
    ap (λ m. drop r (items_of p m S C)) (sym e) ∙ ap (drop r) (items_split p r (n - r) S C)
    ∙ drop_at (items_of p r S C) (items_of p (n - r) (drop (r * p) S) (drop r C)) r (length_items p r S C)

-- what lies before decides the items
pub items_front : (p n : ℕ) (S T : List ℕ) (C D : List Card) → take (n * p) S ≡ take (n * p) T → take n C ≡ take n D → items_of p n S C ≡ items_of p n T D
items_front p zero S T C D e f = refl
items_front p (suc n) S T C D e f =
    let q = suc_place n p in
    let h : p ≤ suc n * p = omega arith in
    let first : take p S ≡ take p T = sym (take-take p (suc n * p) S h) ∙ ap (take p) e ∙ take-take p (suc n * p) T h in
    let left : (l : List ℕ) → take (n * p) (drop p l) ≡ drop p (take (suc n * p) l) = λ l. sym (drop-take p (n * p) l) ∙ ap (λ m. drop p (take m l)) (sym q) in
    let card : (l : List Card) → get_or l 0 blank ≡ get_or (take (suc n) l) 0 blank = λ l. sym (get_or-take (suc n) l 0 blank (omega arith)) in
    let one : 1 + n ≡ suc n = omega arith in
    let cards : (l : List Card) → take n (drop 1 l) ≡ drop 1 (take (suc n) l) = λ l. sym (drop-take 1 n l) ∙ ap (λ m. drop 1 (take m l)) one in
    let others = items_front p n (drop p S) (drop p T) (drop 1 C) (drop 1 D) (left S ∙ ap (drop p) e ∙ sym (left T)) (cards C ∙ ap (drop 1) f ∙ sym (cards D)) in
    let k : get_or C 0 blank ≡ get_or D 0 blank = card C ∙ ap (λ l. get_or l 0 blank) f ∙ sym (card D) in
    rw (first, k, others)

-- a cube and its card are written at a place
module _ (p n : ℕ) (S : List ℕ) (C : List Card) (fits : n * p ≤ length S) (beside : n ≤ length C) (i : ℕ) (at : i < n) where
  here : i * p + p ≤ length S
  here = omega (arith, place_below i n p at)

  pub items_put : (c : List ℕ) (k : Card) → length c ≡ p → items_of p n (put_at p i c S) (set C i k) ≡ set (items_of p n S C) i (item_of c k)
  items_put c k size =
      let L = items_of p n S C in
      let l : length L ≡ n = length_items p n S C in
      let in_L : i < length L = omega arith in
      let in-C : i < length C = omega arith in
      same_items p n (put_at p i c S) (set C i k) (set L i (item_of c k)) (length-set L i (item_of c k) ∙ l) (λ j h.
      ⊎_elim (λ (e : j ≡ i). rw e (rw (cube_at-put p i c S here size, get_or-set_same C i k blank in-C, get_or-set_same L i (item_of c k) no_item in_L)))
      (⊎_elim
      (λ (b : j < i). let ne : j ≢ i = omega arith in
      rw (cube_at-put_below p i c S here size j b, get_or-set_other C i j k blank ne, get_or-set_other L i j (item_of c k) no_item ne) (sym (get_or-items p n j S C h)))
      (λ (b : i < j). let ne : j ≢ i = omega arith in
      rw (cube_at-put_above p i c S here size j b, get_or-set_other C i j k blank ne, get_or-set_other L i j (item_of c k) no_item ne) (sym (get_or-items p n j S C h))))
      (cases_order j i))

  pub items_card : (k : Card) → items_of p n S (set C i k) ≡ set (items_of p n S C) i (item_of (cube_at p i S) k)
  items_card k =
      let L = items_of p n S C in
      let x = item_of (cube_at p i S) k in
      let l : length L ≡ n = length_items p n S C in
      let in_L : i < length L = omega arith in
      let in-C : i < length C = omega arith in
      same_items p n S (set C i k) (set L i x) (length-set L i x ∙ l) (λ j h.
      ⊎_elim (λ (e : j ≡ i). rw e (rw (get_or-set_same C i k blank in-C, get_or-set_same L i x no_item in_L)))
      (⊎_elim
      (λ (b : j < i). let ne : j ≢ i = omega arith in rw (get_or-set_other C i j k blank ne, get_or-set_other L i j x no_item ne) (sym (get_or-items p n j S C h)))
      (λ (b : i < j). let ne : j ≢ i = omega arith in rw (get_or-set_other C i j k blank ne, get_or-set_other L i j x no_item ne) (sym (get_or-items p n j S C h))))
      (cases_order j i))
