-- What Begin and Add check and write. A verdict is `Ok`, or the first refusal whose condition holds.
use Rattle.std.specs.Prelude.{◌≡◌, ℕ, suc, ◌%◌, ◌^◌, ◌<◌, true, false, cond, ◌&&◌, ◌||◌, List, [], ◌∷◌, map, length, take, Ok, Err, Result, ◌==◌, nat_le, nat_lt}
use Rattle.std.specs.Bool.{beq}
use Rattle.std.specs.Int.Count.{count_trailing_zeros}
use Rattle.faults.specs.declared.Cause.{Cause}
use Rattle.faults.specs.declared.Cause.TheVariants.{Shape, Area, Empty, Outside, Repeat, Full}
use Rattle.parts.specs.Sets.{has, minus, whole}
use Rattle.cubes.specs.Cubes.{Cube, same}
use Rattle.cubes.specs.Tables.{Row}
use Rattle.table.specs.declared.card.Card.{Card}
use Rattle.faults.specs.declared.Kind.{Kind}
use Rattle.faults.specs.Codes.{kind_number, is_on_kind}
use Rattle.table.specs.Cards.{area_length, rows_of}

abbrev pub Verdict : Type 0
Verdict = Result (Unit {0}) Cause

-- the first verdict where it refuses, else the second
infixr 20 ◌then◌
abbrev pub ◌then◌ : Verdict → Verdict → Verdict
◌then◌ (Ok x) v = v
◌then◌ (Err c) v = Err c

-- an area that is so long, where so much is needed
abbrev pub area_verdict : ℕ → ℕ → ℕ → Verdict
area_verdict area has needed = cond (nat_lt has needed) (Err (Area area needed)) (Ok tt)

-- ---- Begin

-- the lowest part whose size is not 1 to the most; k is the number of the first
abbrev pub sizes_verdict : ℕ → ℕ → List ℕ → Verdict
sizes_verdict most k [] = Ok tt
sizes_verdict most k (s ∷ ss) = cond (nat_lt s 1 || nat_lt most s) (Err (Shape k s)) (sizes_verdict most (suc k) ss)

abbrev pub shape_verdict : ℕ → ℕ → List ℕ → Verdict
shape_verdict most p sizes = cond (nat_lt p 1 || nat_lt 16 p) (Err (Shape p 0)) (sizes_verdict most 0 (take p sizes))

abbrev pub begin_verdict : ℕ → ℕ → List ℕ → ℕ → Verdict
begin_verdict most p sizes has = shape_verdict most p sizes then area_verdict 1 has p

-- the universe that p and the sizes make
abbrev pub universe_of : ℕ → List ℕ → Cube
universe_of p sizes = map whole (take p sizes)

-- ---- Add

-- the row that words make: of each, the values below the most
abbrev pub made_row : ℕ → List ℕ → Cube
made_row most words = map (λ w. w % 2 ^ most) words

-- the lowest part that has no value
abbrev pub empty_verdict : ℕ → Cube → Verdict
empty_verdict k [] = Ok tt
empty_verdict k (a ∷ A) = cond (a == 0) (Err (Empty k)) (empty_verdict (suc k) A)

-- v is in the set, and no lower value is: where the set has a value, the zeros at the end of its number say which
pub record Lowest (s v : ℕ) : Type 0 where
  pub member : has s v ≡ true
  pub none_below : (w : ℕ) → w < v → has s w ≡ false

-- the lowest part that has a value which the universe lacks, and the lowest such value
abbrev pub outside_verdict : ℕ → Cube → Cube → Verdict
outside_verdict k [] U = Ok tt
outside_verdict k (a ∷ A) [] = Ok tt
outside_verdict k (a ∷ A) (u ∷ U) =
    cond (minus a u == 0) (outside_verdict (suc k) A U) (Err (Outside k (count_trailing_zeros 64 (minus a u))))

-- the first row of this kind that has the same parts
abbrev pub repeat_verdict : Kind → Cube → ℕ → List Row → Verdict
repeat_verdict kind A i [] = Ok tt
repeat_verdict kind A i (r ∷ T) =
    cond (beq r.on (is_on_kind kind) && same r.cube A) (Err (Repeat i (kind_number kind))) (repeat_verdict kind A (suc i) T)

-- there are 512 rows, or the table area has no place for one more
abbrev pub full_verdict : ℕ → ℕ → Verdict
full_verdict rows has = cond (nat_le 512 rows || nat_le has rows) (Err (Full rows)) (Ok tt)

-- Of a table of p parts with so many rows: the row, the universe, the table's parts and cards.
abbrev pub row_verdict : ℕ → ℕ → Kind → Cube → Cube → List ℕ → List Card → Verdict
row_verdict p rows kind A U ts cs =
    empty_verdict 0 A
    then (outside_verdict 0 A U
    then (repeat_verdict kind A 0 (rows_of p rows ts cs)
    then full_verdict rows (area_length p (length ts) (length cs))))

-- the same with the areas checked first; us are the parts of the universe's area
abbrev pub add_verdict : ℕ → ℕ → Kind → Cube → List ℕ → List ℕ → List Card → Verdict
add_verdict p rows kind A us ts cs =
    area_verdict 1 (length us) p
    then (area_verdict 2 (area_length p (length ts) (length cs)) rows
    then row_verdict p rows kind A (take p us) ts cs)
