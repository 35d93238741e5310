-- Items taken one after the other: what each step keeps, the whole call keeps; and in the end all are taken.
use Rattle.std.proofs.Common.{◌≡◌, ℕ, zero, suc, ◌+◌, ◌<◌, ◌≤◌, Bool, true, false, cond, not, eqb, ◌≢◌, List, [], ◌∷◌, ◌++◌, length, get_or, take, drop, Some, None, Option, sym, refl, ap, ◌∙◌, subst, ⊎_elim, suc-add, zero-add, arith}
use Rattle.std.specs.List.{AllByRecursion}
use Rattle.std.proofs.lemmas.List.{map-append, length-map}
use Rattle.std.proofs.lemmas.Bool.{not-true, ne_eqb, eqb-true, eq-eqb, cases_lt, true≢false}
use Rattle.cubes.specs.Cubes.{Cube, Cover}
use Rattle.orders.specs.Rules.{Rule}
use Rattle.orders.specs.Bests.{Found}
use Rattle.orders.proofs.Bests.{best-found}
use Rattle.moves.specs.Items.{Item, no_item, cubes_of, waits, precedes, first_of, Act, at, step, taking, started, carded, weighed}

-- ---- lists of items

pub cubes-++ : (X Y : List Item) → cubes_of (X ++ Y) ≡ cubes_of X ++ cubes_of Y
cubes-++ X Y = map-append (λ (i : Item). i.cube) X Y

pub length-cubes : (L : List Item) → length (cubes_of L) ≡ length L
length-cubes L = length-map L (λ (i : Item). i.cube)

-- how many items pass the test
abbrev pub tally : (Item → Bool) → List Item → ℕ
tally t [] = 0
tally t (i ∷ L) = cond (t i) 1 0 + tally t L

pub tally-++ : (t : Item → Bool) (X Y : List Item) → tally t (X ++ Y) ≡ tally t X + tally t Y
tally-++ t [] Y = omega arith
tally-++ t (i ∷ X) Y = omega (arith, tally-++ t X Y)

pub all_left : {X : Type 0} (P : X → Type 0) (xs ys : List X) → AllByRecursion P (xs ++ ys) → AllByRecursion P xs
all_left P [] ys h = tt
all_left P (x ∷ xs) ys h = (h.0, all_left P xs ys h.1)

pub all_right : {X : Type 0} (P : X → Type 0) (xs ys : List X) → AllByRecursion P (xs ++ ys) → AllByRecursion P ys
all_right P [] ys h = h
all_right P (x ∷ xs) ys h = all_right P xs ys h.1

pub all_both : {X : Type 0} (P Q S : X → Type 0) → ((x : X) → P x → Q x → S x) → (xs : List X) → AllByRecursion P xs → AllByRecursion Q xs → AllByRecursion S xs
all_both P Q S f [] p q = tt
all_both P Q S f (x ∷ xs) p q = (f x p.0 q.0, all_both P Q S f xs p.1 q.1)

pub all_cubes : (P : Cube → Type 0) (L : List Item) → AllByRecursion (λ i. P i.cube) L → AllByRecursion P (cubes_of L)
all_cubes P [] h = tt
all_cubes P (i ∷ L) h = (h.0, all_cubes P L h.1)

-- the list around an item
pub split : (i : ℕ) (L : List Item) → i < length L → L ≡ take i L ++ get_or L i no_item ∷ drop (suc i) L
split i [] h = absurd (omega arith)
split zero (x ∷ L) h = refl
split (suc i) (x ∷ L) h = ap (λ M. x ∷ M) (split i L (omega arith))

tally-none : (t : Item → Bool) (L : List Item) → ((k : ℕ) → k < length L → t (get_or L k no_item) ≡ false) → tally t L ≡ 0
tally-none t [] h = refl
tally-none t (i ∷ L) h = rw (h 0 (omega arith)) (omega (arith, tally-none t L (λ k l. h (suc k) (omega arith))))

tally_le : (t : Item → Bool) (L : List Item) → tally t L ≤ length L
tally_le t [] = omega arith
tally_le t (i ∷ L) = by (t i) (tally_le t L)
  where
    by : (b : Bool) → tally t L ≤ length L → cond b 1 0 + tally t L ≤ suc (length L)
    by true h = omega arith
    by false h = omega arith

-- ---- what a step keeps

pub first_found : (test : Item → Bool) (B : Rule) (L : List Item) → Found (λ i. test (get_or L i no_item)) (length L) (first_of test B L)
first_found test B L = best-found (λ i. test (get_or L i no_item)) (λ i j. precedes B (get_or L i no_item) (get_or L j no_item)) (length L)

module _ (B : Rule) (act : Act) (P : List Item → Type 0)
    (kept : (X : List Item) (f : Item) (Y : List Item) → f.taken ≡ false → P (X ++ f ∷ Y) → P (act X f Y)) where
  step_keeps : (L : List Item) → P L → P (step B act L)
  step_keeps L h = by (first_of waits B L) (first_found waits B L)
    where
      by : (o : Option ℕ) → Found (λ i. waits (get_or L i no_item)) (length L) o → P (at act L o)
      by None g = h
      by (Some i) g = kept (take i L) (get_or L i no_item) (drop (suc i) L) (not-true _ g.1) (subst P (split i L g.0) h)

  pub taking-keeps : (n : ℕ) (L : List Item) → P L → P (taking n B act L)
  taking-keeps zero L h = h
  taking-keeps (suc n) L h = taking-keeps n (step B act L) (step_keeps L h)

-- ---- in the end all are taken

abbrev pub Taken : Item → Type 0
Taken i = i.taken ≡ true

all_taken : (L : List Item) → tally waits L ≡ 0 → AllByRecursion Taken L
all_taken [] h = tt
all_taken (i ∷ L) h = by i.taken refl h (all_taken L)
  where
    by : (t : Bool) → i.taken ≡ t → cond (not t) 1 0 + tally waits L ≡ 0 → (tally waits L ≡ 0 → AllByRecursion Taken L) → (i.taken ≡ true) × AllByRecursion Taken L
    by true e h g = (e, g (omega arith))
    by false e h g = absurd (omega arith)

-- of those that wait one fewer is left
abbrev pub Less : Act → (List Item → Type 0) → Type 0
Less act P = (X : List Item) (f : Item) (Y : List Item) → f.taken ≡ false → P (X ++ f ∷ Y) → tally waits (act X f Y) < tally waits (X ++ f ∷ Y)

passes : (t : Item → Bool) (L : List Item) (i : ℕ) → i < length L → t (get_or L i no_item) ≡ true → 0 < tally t L
passes t [] i l e = absurd (omega arith)
passes t (x ∷ L) zero l e = rw e (omega arith)
passes t (x ∷ L) (suc i) l e = omega (arith, passes t L i (omega arith) e)

-- where none waits, steps change nothing
done_step : (B : Rule) (act : Act) (L : List Item) → tally waits L ≡ 0 → step B act L ≡ L
done_step B act L h = by (first_of waits B L) (first_found waits B L)
  where
    by : (o : Option ℕ) → Found (λ i. waits (get_or L i no_item)) (length L) o → at act L o ≡ L
    by None g = refl
    by (Some i) g = absurd (omega (arith, passes waits L i g.0 g.1))

done_stays : (B : Rule) (act : Act) (n : ℕ) (L : List Item) → tally waits L ≡ 0 → taking n B act L ≡ L
done_stays B act zero L h = refl
done_stays B act (suc n) L h = ap (taking n B act) (done_step B act L h) ∙ done_stays B act n L h

-- once none is found, no number of steps changes the list
pub none_stays : (B : Rule) (act : Act) (n : ℕ) (L : List Item) → first_of waits B L ≡ None → taking n B act L ≡ L
none_stays B act zero L h = refl
none_stays B act (suc n) L h = ap (λ o. taking n B act (at act L o)) h ∙ none_stays B act n L h

module _ (B : Rule) (act : Act) (P : List Item → Type 0)
    (kept : (X : List Item) (f : Item) (Y : List Item) → f.taken ≡ false → P (X ++ f ∷ Y) → P (act X f Y)) (less : Less act P) where
  step_less : (n : ℕ) (L : List Item) → P L → tally waits L ≤ suc n → tally waits (step B act L) ≤ n
  step_less n L k h = by (first_of waits B L) (first_found waits B L)
    where
      by : (o : Option ℕ) → Found (λ i. waits (get_or L i no_item)) (length L) o → tally waits (at act L o) ≤ n
      by None g = omega (arith, tally-none waits L g)
      by (Some i) g =
          omega (
            arith,
            less (take i L) (get_or L i no_item) (drop (suc i) L) (not-true _ g.1) (subst P (split i L g.0) k),
            ap (tally waits) (split i L g.0),
          )

  pub taking-all : (n : ℕ) (L : List Item) → P L → tally waits L ≤ n → AllByRecursion Taken (taking n B act L)
  taking-all zero L k h = all_taken L (omega arith)
  taking-all (suc n) L k h = taking-all n (step B act L) (step_keeps B act P kept L k) (step_less n L k h)

  pub taking-enough : (n m : ℕ) (L : List Item) → P L → tally waits L ≤ n → taking (n + m) B act L ≡ taking n B act L
  taking-enough zero m L k h = rw (zero-add m) (done_stays B act m L (omega arith))
  taking-enough (suc n) m L k h = rw (suc-add n m) (taking-enough n m (step B act L) (step_keeps B act P kept L k) (step_less n L k h))

-- ---- the start

pub cubes-carded : (C : Cover) (k : ℕ) (D : Cover) → cubes_of (carded C k D) ≡ D
cubes-carded C k [] = refl
cubes-carded C k (c ∷ D) = ap (λ E. c ∷ E) (cubes-carded C (suc k) D)

pub length-carded : (C : Cover) (k : ℕ) (D : Cover) → length (carded C k D) ≡ length D
length-carded C k [] = refl
length-carded C k (c ∷ D) = ap suc (length-carded C (suc k) D)

abbrev fresh_item : Cover → Cube → ℕ → Item
fresh_item C c q = record { cube = c; weight = weighed c C; place = q; taken = false; tried = false }

get_or-carded : (C : Cover) (k : ℕ) (D : Cover) (i q : ℕ) → i < length D → k + i ≡ q → get_or (carded C k D) i no_item ≡ fresh_item C (get_or D i []) q
get_or-carded C k [] i q l e = absurd (omega arith)
get_or-carded C k (c ∷ D) zero q l e = let h : k ≡ q = omega arith in ap (fresh_item C c) h
get_or-carded C k (c ∷ D) (suc i) q l e = get_or-carded C (suc k) D i q (omega arith) (omega arith)

-- the item at a place
pub get_or-started : (C : Cover) (i : ℕ) → i < length C
    → get_or (started C) i no_item ≡ record { cube = get_or C i []; weight = weighed (get_or C i []) C; place = i; taken = false; tried = false }
get_or-started C i l = get_or-carded C 0 C i i l (omega arith)

pub waits-started : (C : Cover) → tally waits (started C) ≤ length C
waits-started C = rw (← length-carded C 0 C) (tally_le waits (started C))

-- what is known of each cube, and of nothing that was taken
pub fresh : (P : Cube → Type 0) (Q : Item → Type 0) (C : Cover) (k : ℕ) (D : Cover) → AllByRecursion P D
    → AllByRecursion (λ i. P i.cube × (i.taken ≡ true → Q i)) (carded C k D)
fresh P Q C k [] h = tt
fresh P Q C k (c ∷ D) h = ((h.0, λ q. absurd (true≢false (sym q))), fresh P Q C (suc k) D h.1)

-- ---- places that differ

-- no place stands twice
abbrev pub Once : List Item → Type 0
Once L = (q : ℕ) → tally (λ i. eqb i.place q) L ≤ 1

-- none of the places below k stands in it
after_start : (C : Cover) (k q : ℕ) (D : Cover) → q < k → tally (λ i. eqb i.place q) (carded C k D) ≡ 0
after_start C k q [] l = refl
after_start C k q (c ∷ D) l = rw (ne_eqb k q (λ e. absurd (omega arith))) (omega (arith, after_start C (suc k) q D (omega arith)))

once_carded : (C : Cover) (k : ℕ) (D : Cover) → Once (carded C k D)
once_carded C k [] q = omega arith
once_carded C k (c ∷ D) q = by (eqb k q) refl (once_carded C (suc k) D q)
  where
    by : (t : Bool) → eqb k q ≡ t → tally (λ i. eqb i.place q) (carded C (suc k) D) ≤ 1
        → cond t 1 0 + tally (λ i. eqb i.place q) (carded C (suc k) D) ≤ 1
    by true e h = omega (arith, after_start C (suc k) q D (omega (arith, eqb-true k q e)))
    by false e h = omega arith

pub once_started : (C : Cover) → Once (started C)
once_started C = once_carded C 0 C

-- two items that pass the test count twice
passes-two : (t : Item → Bool) (L : List Item) (i j : ℕ) → i < j → j < length L → t (get_or L i no_item) ≡ true → t (get_or L j no_item) ≡ true → 1 < tally t L
passes-two t [] i j h l e f = absurd (omega arith)
passes-two t (x ∷ L) zero zero h l e f = absurd (omega arith)
passes-two t (x ∷ L) zero (suc j) h l e f = rw e (omega (arith, passes t L j (omega arith) f))
passes-two t (x ∷ L) (suc i) zero h l e f = absurd (omega arith)
passes-two t (x ∷ L) (suc i) (suc j) h l e f = omega (arith, passes-two t L i j (omega arith) (omega arith) e f)

pub differ : (L : List Item) → Once L → (i j : ℕ) → i < length L → j < length L → i ≢ j → (get_or L i no_item).place ≢ (get_or L j no_item).place
differ L h i j li lj ne e =
    let q : ℕ = (get_or L j no_item).place in
    let ti : eqb (get_or L i no_item).place q ≡ true = eq-eqb (get_or L i no_item).place q e in
    let tj : eqb (get_or L j no_item).place q ≡ true = eq-eqb q q refl in
    ⊎_elim (λ l. omega (arith, h q, passes-two (λ i. eqb i.place q) L i j l lj ti tj))
    (λ l. omega (arith, h q, passes-two (λ i. eqb i.place q) L j i (omega arith) li tj ti)) (cases_lt i j)
