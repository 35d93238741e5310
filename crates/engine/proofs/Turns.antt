-- Cubes taken one after the other: the cards in the area as the items of the definition.
use Rattle.std.proofs.Common.{◌≡◌, ℕ, suc, ◌+◌, ◌-◌, ◌<◌, ◌≤◌, true, false, List, ◌∷◌, ◌++◌, length, get_or, take, drop, Some, None, sym, ap, ◌∙◌, subst, arith}
use Rattle.std.proofs.lemmas.List.{drop_all, drop-append-le, length-map}
use Rattle.std.proofs.lemmas.Bool.{not-true}
use Rattle.cubes.specs.Areas.{overlay}
use Rattle.cubes.specs.Cubes.{Cube, Cover}
use Rattle.moves.specs.Calls.{expand}
use Rattle.moves.specs.Expand.{expanding}
use Rattle.moves.specs.Items as items
use Rattle.moves.specs.Items.{Item, no_item, cubes_of, Act, at, taking}
use Rattle.moves.proofs.Taking.{tally, length-carded, split, first_found, Less, none_stays, taking-enough}
use Rattle.orders.specs.Rules.{Rule}
use Rattle.orders.specs.Bests.{Found}
use Rattle.orders.specs.Searches as cards
use Rattle.orders.proofs.Bests.{best_alike}
use Rattle.table.specs.declared.card.Card.{Card}
use Rattle.table.specs.Cards.{blank}
use Rattle.tending.specs.Items.{items_of, card_of, cards_of}
use Rattle.tending.proofs.Places.{length_items, get_or-items}

-- the first card not yet taken is that of the first item
pub first_card : (p n : ℕ) (S : List ℕ) (C : List Card) (B : Rule) → cards.first_of cards.waits B C n ≡ items.first_of items.waits B (items_of p n S C)
first_card p n S C B =
    let L = items_of p n S C in
    let l : length L ≡ n = length_items p n S C in
    rw l
    (best_alike (λ i. cards.waits (get_or C i blank)) (λ i. items.waits (get_or L i no_item))
    (λ i j. cards.precedes B (get_or C i blank) (get_or C j blank)) (λ i j. items.precedes B (get_or L i no_item) (get_or L j no_item)) n
    (λ i h. ap items.waits (sym (get_or-items p n i S C h)))
    (λ i j h k. rw (get_or-items p n i S C h, get_or-items p n j S C k)))

-- the turns left, one for each item that waits, make of L what n make of the list M at the start
abbrev pub Turned : Rule → Act → ℕ → List Item → List Item → Type 0
Turned B act n M L = taking (tally items.waits L) B act L ≡ taking n B act M

-- what holds of any list
abbrev pub any : List Item → Type 0
any L = Unit {0}

module _ (B : Rule) (act : Act) (less : Less act any) where
  kept : (X : List Item) (f : Item) (Y : List Item) → f.taken ≡ false → any (X ++ f ∷ Y) → any (act X f Y)
  kept X f Y _ _ = tt

  -- as many turns as items wait are enough
  enough : (n : ℕ) (L : List Item) → tally items.waits L ≤ n → taking n B act L ≡ taking (tally items.waits L) B act L
  enough n L h =
      let t = tally items.waits L in
      let e : t + (n - t) ≡ n = omega arith in
      ap (λ m. taking m B act L) (sym e) ∙ taking-enough B act any kept less t (n - t) L tt (omega arith)

  pub turned_none : (n : ℕ) (M : List Item) → tally items.waits M ≤ n → Turned B act n M M
  turned_none n M h = sym (enough n M h)

  module _ (L : List Item) (k : ℕ) (K : List Item) (f : items.first_of items.waits B L ≡ Some k) where
    found : (k < length L) × (items.waits (get_or L k no_item) ≡ true)
    found = subst (Found (λ i. items.waits (get_or L i no_item)) (length L)) f (first_found items.waits B L)

    pub in_list : k < length L
    in_list = found.0

    module _ (e : K ≡ act (take k L) (get_or L k no_item) (drop (suc k) L)) where
      pub fewer_wait : tally items.waits K < tally items.waits L
      fewer_wait =
          let h = less (take k L) (get_or L k no_item) (drop (suc k) L) (not-true _ found.1) tt in
          omega (arith, h, ap (tally items.waits) e, ap (tally items.waits) (split k L found.0))

      pub turned_some : (n : ℕ) (M : List Item) → Turned B act n M L → Turned B act n M K
      turned_some n M turned =
          let t = tally items.waits L in
          let h = fewer_wait in
          let one : t ≡ suc (t - 1) = omega arith in
          let step : taking (t - 1) B act K ≡ taking t B act L = ap (taking (t - 1) B act) (e ∙ sym (ap (at act L) f)) ∙ ap (λ m. taking m B act L) (sym one) in
          sym (enough (t - 1) K (omega arith)) ∙ step ∙ turned

-- where none waits all is done
pub turned_all : (B : Rule) (act : Act) (n : ℕ) (M L : List Item) → Turned B act n M L → items.first_of items.waits B L ≡ None → L ≡ taking n B act M
turned_all B act n M L turned f = sym (none_stays B act (tally items.waits L) L f) ∙ turned

-- the cards that a call starts with leave those behind them
pub started_behind : (n : ℕ) (C : Cover) (K : List Card) → length C ≡ n → drop n (overlay (cards_of (items.started C)) K) ≡ drop n K
started_behind n C K e =
    let ys = cards_of (items.started C) in
    let size : length ys ≡ n = length-map (items.started C) card_of ∙ length-carded C 0 C ∙ e in
    drop-append-le n ys (drop (length ys) K) (omega arith) ∙ rw (drop_all n ys (omega arith), size)

-- every cube is taken
pub expand_is : (B : Rule) (U : Cube) (R : Cover) (n : ℕ) (C : Cover) → length C ≡ n → cubes_of (taking n B (expanding U R) (items.started C)) ≡ expand B U R C
unfolding expand
expand_is B U R n C e = rw e
