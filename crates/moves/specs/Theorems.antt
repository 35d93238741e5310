-- What is proved of orders and calls, a statement to a name.
use Rattle.std.specs.Prelude.{◌≡◌, ℕ, suc, ◌+◌, ◌<◌, Bool, true, false, cond, not, ◌&&◌, ◌||◌, ◌≢◌, ◌↔◌, List, [], ◌∷◌, ◌++◌, length, get_or, take, drop, replicate, None, ◌==◌, bit_and, slice_index, slice_index_or}
use Rattle.std.specs.List.{AllByRecursion}
use Rattle.parts.specs.Sets.{some}
use Rattle.cubes.specs.Cubes.{Cube, Vertex, Cover, Wide, live, holds, held, meets, rest}
use Rattle.cubes.specs.Tables.{Row, on_rows, dc_rows, all_rows, Prime, Irredundant}
use Rattle.orders.specs.Rules.{Rule, Ordered}
use Rattle.orders.specs.Bests.{IsFirst}
use Rattle.moves.specs.Items.{Item, no_item, cubes_of, precedes, first_of, weighed, waits, Act, taking, started}
use Rattle.moves.specs.Widen.{beside}
use Rattle.moves.specs.Expand.{expanding, misses}
use Rattle.moves.specs.Kept.{kept, reduced, none_left, Exact}
use Rattle.moves.specs.Drop.{dropping}
use Rattle.moves.specs.Chosen.{chosen, veiled, dc_marks}
use Rattle.moves.specs.Calls.{expand, drop_spare, finish}
use Rattle.moves.specs.Sound.{Alive, Within, Apart, Expanded, Dropped, Finished}
use Rattle.moves.specs.Standing.{Proper, Standing}

-- ---- orders

-- an item is found where one passes the test; it passes, and comes before every other that passes and has another place
abbrev pub FirstFirst : Type 0
FirstFirst =
    (test : Item → Bool) (B : Rule) (L : List Item) → Ordered B
    → IsFirst (λ i. test (slice_index_or L i no_item)) (λ i j. precedes B (slice_index_or L i no_item) (slice_index_or L j no_item)) (λ i. (get_or L i no_item).place) (length L) (first_of test B L)

-- ---- during a call, on any cubes

-- no two items have the same place
abbrev pub Differing : List Item → Type 0
Differing L = (i j : ℕ) → i < length L → j < length L → i ≢ j → (get_or L i no_item).place ≢ (get_or L j no_item).place

-- so it is after any number of steps
abbrev pub PlacesDiffer : Type 0
PlacesDiffer =
    (n : ℕ) (U : Cube) (R C D : Cover) (B : Rule)
    → Differing (taking n B (expanding U R) (started C)) × Differing (taking n B (dropping D) (started C))

-- after as many steps as there were cubes, each item left was taken
abbrev pub EveryTaken : Type 0
EveryTaken =
    (U : Cube) (R C D : Cover) (B : Rule)
    → AllByRecursion (λ i. i.taken ≡ true) (taking (length C) B (expanding U R) (started C))
    × AllByRecursion (λ i. i.taken ≡ true) (taking (length C) B (dropping D) (started C))

-- more steps change nothing
abbrev pub StepsEnough : Type 0
StepsEnough =
    (m : ℕ) (U : Cube) (R C D : Cover) (B : Rule)
    → (taking (length C + m) B (expanding U R) (started C) ≡ taking (length C) B (expanding U R) (started C))
    × (taking (length C + m) B (dropping D) (started C) ≡ taking (length C) B (dropping D) (started C))

-- nor do any steps once no item is found that waits
abbrev pub NoneWaits : Type 0
NoneWaits = (n : ℕ) (B : Rule) (act : Act) (L : List Item) → first_of waits B L ≡ None → taking n B act L ≡ L

-- cubes meet where they miss each other in no part; they meet in each part but k where they miss each other as often as in part k alone
abbrev pub BesideMisses : Type 0
BesideMisses =
    (k : ℕ) (f r : Cube) → length f ≡ length r → k < length f
    → (meets f r ≡ (misses f r == 0)) × (beside k f r ≡ (misses f r == cond (some (bit_and (slice_index f k) (slice_index r k))) 0 1))

-- where they do not meet, they meet in each part but k exactly if they miss each other in k alone
abbrev pub BesideOnce : Type 0
BesideOnce =
    (k : ℕ) (f r : Cube) → length f ≡ length r → k < length f → meets f r ≡ false
    → beside k f r ≡ (not (some (bit_and (slice_index f k) (slice_index r k))) && misses f r == 1)

-- the item at a place, as a call begins
abbrev pub StartedAt : Type 0
StartedAt =
    (C : Cover) (i : ℕ) → i < length C
    → slice_index_or (started C) i no_item ≡ record { cube = slice_index_or C i []; weight = weighed (slice_index_or C i []) C; place = i; taken = false; tried = false }

-- the list around an item
abbrev pub ListSplits : Type 0
ListSplits = (i : ℕ) (L : List Item) → i < length L → L ≡ take i L ++ slice_index_or L i no_item ∷ drop (suc i) L

-- ---- what is left of a cube

-- nothing is left of f exactly if each of its vertices is held by D
abbrev pub SpareExact : Type 0
SpareExact =
    (f : Cube) (D : Cover) → Wide (length f) D → 0 < length f
    → (none_left (reduced f D) ≡ true) ↔ ((v : Vertex) → length v ≡ length f → holds f v ≡ true → held D v ≡ true)

-- so it is where f has an empty part, and else where the rest is no cube
abbrev pub SpareRest : Type 0
SpareRest = (f : Cube) (D : Cover) → Wide (length f) D → 0 < length f → none_left (reduced f D) ≡ (not (live f) || none_left (rest f D))

-- what is kept has in part k the values that f's own vertices have there
abbrev pub KeptExact : Type 0
KeptExact = (f : Cube) (D : Cover) → Wide (length f) D → Exact f D (kept f D)

-- only what the others hold matters, not which they are
abbrev pub KeptAlike : Type 0
KeptAlike =
    (f : Cube) (D E : Cover) → Wide (length f) D → Wide (length f) E
    → ((v : Vertex) → length v ≡ length f → held D v ≡ held E v) → kept f D ≡ kept f E

-- with the items but f marked, and the DC rows, those chosen from cubes and rows are the others and the DC rows
abbrev pub OthersChosen : Type 0
OthersChosen =
    (X : List Item) (f : Item) (Y : List Item) (T : List Row)
    → chosen (replicate (length X) true ++ false ∷ (replicate (length Y) true ++ dc_marks T)) (cubes_of (X ++ f ∷ Y) ++ all_rows T)
    ≡ cubes_of X ++ cubes_of Y ++ dc_rows T

-- those that are not chosen may as well be passed over: cubes with only empty parts leave the same
abbrev pub VeiledRest : Type 0
VeiledRest = (f : Cube) (M : List Bool) (C : Cover) → 0 < length f → rest f (veiled (length f) M C) ≡ rest f (chosen M C)

-- ---- the calls, on cubes of p parts; a part may be empty

-- where the cubes lie within U and meet no cube of R
abbrev pub ExpandKeeps : Type 0
ExpandKeeps =
    (p : ℕ) (U : Cube) (R C : Cover) (B : Rule) → length U ≡ p → Wide p R → Wide p C → Within U C → Apart R C
    → Expanded p U R C (expand B U R C)

-- and they have no empty part then if they had none
abbrev pub ExpandAlive : Type 0
ExpandAlive =
    (p : ℕ) (U : Cube) (R C : Cover) (B : Rule) → length U ≡ p → Wide p R → Wide p C → Within U C → Apart R C → Alive C
    → Alive (expand B U R C)

-- on any cubes
abbrev pub DropKeeps : Type 0
DropKeeps = (p : ℕ) (C D : Cover) (B : Rule) → 0 < p → Wide p C → Wide p D → Dropped p D C (drop_spare B D C)

-- where the cubes lie within U and meet no cube of R
abbrev pub FinishKeeps : Type 0
FinishKeeps =
    (p : ℕ) (U : Cube) (R C D : Cover) (B : Rule) → 0 < p → length U ≡ p → Wide p R → Wide p D → Wide p C → Within U C → Apart R C
    → Finished p U R D C (finish B U R D C)

-- ---- in terms of care and off vertices

-- the ON rows stand, with what the rows leave of the universe
abbrev pub OnStands : Type 0
OnStands = (p most : ℕ) (U : Cube) (T : List Row) → Proper p most U T → Standing p most U T (rest U (all_rows T)) (on_rows T)

-- cubes that stand meet no cube of the off list
abbrev pub StandingApart : Type 0
StandingApart = (p most : ℕ) (U : Cube) (T : List Row) (R C : Cover) → Standing p most U T R C → Apart R C

-- what stands stands after each call
abbrev pub CallsStand : Type 0
CallsStand =
    (p most : ℕ) (U : Cube) (T : List Row) (R C : Cover) (B : Rule) → Standing p most U T R C
    → Standing p most U T R (expand B U R C) × Standing p most U T R (drop_spare B (dc_rows T) C)
    × Standing p most U T R (finish B U R (dc_rows T) C)

-- after Expand each cube is prime
abbrev pub ExpandPrime : Type 0
ExpandPrime =
    (p most : ℕ) (U : Cube) (T : List Row) (R C : Cover) (B : Rule) → Standing p most U T R C → AllByRecursion (Prime p most U T) (expand B U R C)

-- after Drop no cube can be struck out
abbrev pub DropIrredundant : Type 0
DropIrredundant =
    (p most : ℕ) (U : Cube) (T : List Row) (R C : Cover) (B : Rule) → Standing p most U T R C
    → Irredundant p most T (drop_spare B (dc_rows T) C)

-- after Finish both
abbrev pub FinishEnds : Type 0
FinishEnds =
    (p most : ℕ) (U : Cube) (T : List Row) (R C : Cover) (B : Rule) → Standing p most U T R C
    → let E = finish B U R (dc_rows T) C in AllByRecursion (Prime p most U T) E × Irredundant p most T E
