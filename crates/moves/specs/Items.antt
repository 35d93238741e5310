-- The cubes of a solution during a call, each with its weight, its starting place and its marks; taken one after the other in order.
use Rattle.std.specs.Prelude.{ℕ, zero, suc, ◌+◌, Bool, true, false, not, List, [], ◌∷◌, map, length, take, drop, Some, None, Option, bit_and, slice_index_or}
use Rattle.std.specs.Int.Count.{ones}
use Rattle.cubes.specs.Cubes.{Cube, Cover}
use Rattle.orders.specs.Rules.{Rule}
use Rattle.orders.specs.Bests.{best}

pub record Item : Type 0 where
  pub cube : Cube
  pub weight : ℕ
  pub place : ℕ
  pub taken : Bool
  pub tried : Bool

abbrev pub no_item : Item
no_item = record { cube = []; weight = 0; place = 0; taken = false; tried = false }

abbrev pub cubes_of : List Item → Cover
cubes_of L = map (λ (i : Item). i.cube) L

-- the item as taken, with another cube
abbrev pub placed : Item → Cube → Item
placed i c = record { cube = c; weight = i.weight; place = i.place; taken = true; tried = i.tried }

-- ---- the start of a call

-- the values that two cubes share, counted over the parts
unfoldable pub shared : Cube → Cube → ℕ
unfolding ones
shared [] B = 0
shared (a ∷ A) [] = 0
shared (a ∷ A) (b ∷ B) = ones (bit_and a b) + shared A B

-- the values that a cube shares with each cube of the cover
unfoldable pub weighed : Cube → Cover → ℕ
unfolding shared
weighed c [] = 0
weighed c (d ∷ C) = shared c d + weighed c C

-- the cubes D of the cover C, from the place k on
abbrev pub carded : Cover → ℕ → Cover → List Item
carded C k [] = []
carded C k (c ∷ D) = record { cube = c; weight = weighed c C; place = k; taken = false; tried = false } ∷ carded C (suc k) D

abbrev pub started : Cover → List Item
started C = carded C 0 C

-- ---- taken in order

abbrev pub precedes : Rule → Item → Item → Bool
precedes B i j = B i.weight i.place j.weight j.place

-- where the first item stands of those that pass the test
abbrev pub first_of : (Item → Bool) → Rule → List Item → Option ℕ
first_of test B L = best (λ i. test (slice_index_or L i no_item)) (λ i j. precedes B (slice_index_or L i no_item) (slice_index_or L j no_item)) (length L)

abbrev pub waits : Item → Bool
waits i = not i.taken

-- what becomes of the list: from the items before one, that one, and those behind it
abbrev pub Act : Type 0
Act = List Item → Item → List Item → List Item

abbrev pub at : Act → List Item → Option ℕ → List Item
at act L None = L
at act L (Some i) = act (take i L) (slice_index_or L i no_item) (drop (suc i) L)

-- the first item not yet taken is taken
abbrev pub step : Rule → Act → List Item → List Item
step B act L = at act L (first_of waits B L)

-- at most n items are taken, one after the other
abbrev pub taking : ℕ → Rule → Act → List Item → List Item
taking zero B act L = L
taking (suc n) B act L = taking n B act (step B act L)
