-- The cubes of a solution with what their cards say.
use Rattle.std.specs.Prelude.{ℕ, zero, suc, Bool, true, false, cond, not, ◌||◌, List, [], ◌∷◌, map, get_or, take, drop, ◌==◌, slice_index_or}
use Rattle.cubes.specs.Cubes.{Cube, covers}
use Rattle.moves.specs.Items.{Item, no_item}
use Rattle.moves.specs.Expand.{spared, put_grown}
use Rattle.table.specs.declared.card.Card.{Card}
use Rattle.table.specs.Cards.{blank}

-- a cube with what its card says; kind and out do not show
abbrev pub item_of : Cube → Card → Item
item_of c k = record { cube = c; weight = k.weight; place = k.place; taken = k.taken; tried = k.tried }

-- the first n cubes of an area of sets, with their cards
abbrev pub items_of : ℕ → ℕ → List ℕ → List Card → List Item
items_of p zero ts cs = []
items_of p (suc n) ts cs = item_of (take p ts) (slice_index_or cs 0 blank) ∷ items_of p n (drop p ts) (drop 1 cs)

-- the card of an item
abbrev pub card_of : Item → Card
card_of i = record { kind = 0; weight = i.weight; place = i.place; taken = i.taken; tried = i.tried; out = false }

abbrev pub cards_of : List Item → List Card
cards_of L = map card_of L

-- the card as taken
abbrev pub as_taken : Card → Card
as_taken k = record { kind = k.kind; weight = k.weight; place = k.place; taken = true; tried = k.tried; out = k.out }

-- the cube c at place i stays: it is the one at `at`, or g does not cover it
abbrev pub stays : Cube → ℕ → ℕ → Cube → Bool
stays g at i c = i == at || not (covers g c)

-- the items that stay
abbrev pub spared_but : Cube → ℕ → List Item → List Item
spared_but g at [] = []
spared_but g zero (x ∷ L) = x ∷ spared g L
spared_but g (suc at) (x ∷ L) = cond (not (covers g x.cube)) (x ∷ spared_but g at L) (spared_but g at L)

-- the item at `at` is taken, and the others go that its cube covers
abbrev pub only_at : ℕ → List Item → List Item
only_at at L = put_grown (take at L) (slice_index_or L at no_item) (drop (suc at) L) (get_or L at no_item).cube
