-- The items that stay, one after another.
use Rattle.std.proofs.Common.{◌≡◌, ℕ, zero, suc, ◌+◌, ◌<◌, Bool, true, false, cond, not, eqb, List, [], ◌∷◌, ◌++◌, length, get_or, take, drop, set, sym, refl, ap, ◌∙◌, ⊎_elim, arith}
use Rattle.std.proofs.lemmas.List.{length-set, take-set-le, drop-set-lt, get_or-set_same}
use Rattle.std.proofs.lemmas.Bool.{cases_eq, eq-eqb, ne_eqb}
use Rattle.std.proofs.lemmas.List.Elements.{filter_more}
use Rattle.cubes.specs.Cubes.{Cube, covers}
use Rattle.moves.specs.Items.{Item, no_item, placed}
use Rattle.moves.specs.Expand.{spared}
use Rattle.tending.specs.Items.{stays, spared_but, only_at}

-- x is there where b, before A; and T is behind it all
led : (b : Bool) (x : Item) (A B T : List Item) → A ≡ B ++ T → cond b (x ∷ A) A ≡ cond b (x ∷ B) B ++ T
led true x A B T e = ap (λ l. x ∷ l) e
led false x A B T e = e

eqb-suc : (i j : ℕ) → eqb (suc i) (suc j) ≡ eqb i j
eqb-suc i j =
    ⊎_elim (λ (e : i ≡ j). eq-eqb (suc i) (suc j) (ap suc e) ∙ sym (eq-eqb i j e))
    (λ (ne : i ≡ j → ⊥). ne_eqb (suc i) (suc j) (λ e. ne (omega arith)) ∙ sym (ne_eqb i j ne)) (cases_eq i j)

pub but_more : (g : Cube) (at : ℕ) (L : List Item) (i : ℕ) → i < length L
    → let x = get_or L i no_item in spared_but g at (take (i + 1) L) ≡ spared_but g at (take i L) ++ cond (stays g at i x.cube) (x ∷ []) []
unfolding spared
but_more g at [] i h = absurd (omega arith)
but_more g zero (x ∷ L) zero h = refl
but_more g (suc at) (x ∷ L) zero h = let f : eqb 0 (suc at) ≡ false = ne_eqb 0 (suc at) (λ z. omega arith) in rw f
but_more g zero (x ∷ L) (suc i) h =
    let e : suc i + 1 ≡ suc (i + 1) = omega arith in
    let f : eqb (suc i) 0 ≡ false = ne_eqb (suc i) 0 (λ z. omega arith) in
    rw (e, f) (ap (λ l. x ∷ l) (filter_more (λ (y : Item). not (covers g y.cube)) L i no_item (omega arith)))
but_more g (suc at) (x ∷ L) (suc i) h =
    let e : suc i + 1 ≡ suc (i + 1) = omega arith in
    rw (e, eqb-suc i at) (led (not (covers g x.cube)) x (spared_but g at (take (i + 1) L)) (spared_but g at (take i L)) _ (but_more g at L i (omega arith)))

pub but_is : (g : Cube) (at : ℕ) (L : List Item) → at < length L → spared_but g at L ≡ spared g (take at L) ++ get_or L at no_item ∷ spared g (drop (suc at) L)
unfolding spared
but_is g at [] h = absurd (omega arith)
but_is g zero (x ∷ L) h = refl
but_is g (suc at) (x ∷ L) h = led (not (covers g x.cube)) x (spared_but g at L) (spared g (take at L)) _ (but_is g at L (omega arith))

-- the item at `at` is marked first
pub marked_only : (at : ℕ) (L : List Item) → at < length L
    → let f = get_or L at no_item in spared_but f.cube at (set L at (placed f f.cube)) ≡ only_at at L
marked_only at L h =
    let f = get_or L at no_item in
    let x = placed f f.cube in
    let M = set L at x in
    let l : at < length M = simp length-set h in
    but_is f.cube at M l
    ∙ rw (take-set-le at L at x (omega arith), get_or-set_same L at x no_item h, drop-set-lt (suc at) L at x (omega arith))
