-- The cards beside the rows, and the table that rows and cards make.
use Rattle.std.specs.Prelude.{ℕ, zero, suc, ◌+◌, ◌/◌, min, Bool, false, cond, List, [], ◌∷◌, take, drop, ◌==◌, slice_index_or}
use Rattle.cubes.specs.Tables.{Row}
use Rattle.table.specs.declared.card.Card.{Card}
use Rattle.faults.specs.Codes.{kind_number}
use Rattle.faults.specs.declared.Kind.{Kind}

-- a card that is all zeros
abbrev pub blank : Card
blank = record { kind = 0; weight = 0; place = 0; taken = false; tried = false; out = false }

-- ON is 0; any other kind is DC
abbrev pub is_on : Card → Bool
is_on c = c.kind == 0

-- the card of a row that is added at a place
abbrev pub row_card : Kind → ℕ → Card
row_card k at = record { kind = kind_number k; weight = 0; place = at; taken = false; tried = false; out = false }

-- the first n rows of an area of cubes of p parts, with their cards
abbrev pub rows_of : ℕ → ℕ → List ℕ → List Card → List Row
rows_of p zero ts cs = []
rows_of p (suc n) ts cs = record { cube = take p ts; on = is_on (slice_index_or cs 0 blank) } ∷ rows_of p n (drop p ts) (drop 1 cs)

-- the ON rows among the first n, as they lie in the area
abbrev pub on_cubes : {X : Type 0} → ℕ → ℕ → List X → List Card → List (List X)
on_cubes p zero ts cs = []
on_cubes p (suc n) ts cs = cond (is_on (slice_index_or cs 0 blank)) (take p ts ∷ on_cubes p n (drop p ts) (drop 1 cs)) (on_cubes p n (drop p ts) (drop 1 cs))

-- how many of the first n cards are ON
abbrev pub on_count : ℕ → List Card → ℕ
on_count zero cs = 0
on_count (suc n) cs = cond (is_on (slice_index_or cs 0 blank)) 1 0 + on_count n (drop 1 cs)

-- how many cubes of p parts an area has that is so many parts long, with so many things beside them
abbrev pub area_length : ℕ → ℕ → ℕ → ℕ
area_length p parts beside = min (parts / p) beside
