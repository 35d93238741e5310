-- What each call answers, and what the areas that it may change hold afterwards, from the session's numbers and what the areas hold before.
use Rattle.std.specs.Prelude.{ℕ, ◌+◌, ◌*◌, Bool, true, false, List, length, take, replicate, Ok, Err, Result, nat_le, slice_set}
use Rattle.faults.specs.declared.Cause.TheVariants.{Off}
use Rattle.faults.specs.declared.Fault.{Fault}
use Rattle.cubes.specs.Areas.{flat, overlay, put_at}
use Rattle.cubes.specs.Cubes.{Cube, Cover}
use Rattle.table.specs.declared.card.Card.{Card}
use Rattle.faults.specs.declared.Kind.{Kind}
use Rattle.table.specs.Cards.{blank, row_card, on_cubes, on_count, area_length}
use Rattle.table.specs.Filling.{Verdict, begin_verdict, universe_of, add_verdict, made_row}
use Rattle.table.specs.Opening.{open_verdict, off_most, off_list}
use Rattle.session.specs.States.{Filling, Opened, by_table, by_engine}

-- ---- Begin

pub record Begun : Type 0 where
  pub answer : Result Filling Fault
  pub universe : List ℕ

abbrev pub begun_by : Verdict → ℕ → List ℕ → List ℕ → Begun
begun_by (Ok x) p sizes us = record { answer = Ok (record { p = p; rows = 0 }); universe = overlay (universe_of p sizes) us }
begun_by (Err c) p sizes us = record { answer = Err (by_table c); universe = us }

-- from the kind's most, the number of parts, the sizes, and the universe's area
abbrev pub begun : ℕ → ℕ → List ℕ → List ℕ → Begun
begun most p sizes us = begun_by (begin_verdict most p sizes (length us)) p sizes us

-- ---- Add

pub record Added : Type 0 where
  pub answer : Result Filling (Filling × Fault)
  pub table : List ℕ
  pub rows : List Card

abbrev pub added_by : Verdict → Filling → Kind → Cube → List ℕ → List Card → Added
added_by (Ok x) t kind A ts cs =
    record {
      answer = Ok (record { p = t.p; rows = t.rows + 1 });
      table = put_at t.p t.rows A ts;
      rows = slice_set cs t.rows (row_card kind t.rows);
    }
added_by (Err c) t kind A ts cs = record { answer = Err (t, by_table c); table = ts; rows = cs }

-- from the kind's most, the table, the row's kind and words, and the areas of universe and table with its cards
abbrev pub added : ℕ → Filling → Kind → List ℕ → List ℕ → List ℕ → List Card → Added
added most t kind words us ts cs =
    let A = made_row most (take t.p words) in added_by (add_verdict t.p t.rows kind A us ts cs) t kind A ts cs

-- ---- Open

pub record Opening : Type 0 where
  pub answer : Result Opened (Filling × Fault)
  pub off : List ℕ
  pub solution : List ℕ
  pub cards : List Card
  pub work : List ℕ
  pub numbers : List ℕ

-- an answer, and the areas as they are left
abbrev pub leaving : Result Opened (Filling × Fault) → List ℕ → List ℕ → List Card → List ℕ → List ℕ → Opening
leaving answer off solution cards work numbers =
    record { answer = answer; off = off; solution = solution; cards = cards; work = work; numbers = numbers }

-- The off area with the cubes of the list L that fit, the work area all empty parts and zeros; where the whole list fits, the solution area with
-- the ON rows in order, with blank cards.
abbrev pub listed_by : Bool → Filling → Cover → List ℕ → List Card → List ℕ → List ℕ → List Card → List ℕ → List ℕ → Opening
listed_by true t L ts rs off solution cards work numbers =
    let has = area_length t.p (length work) (length numbers) in
    record {
      answer = Ok (record { p = t.p; rows = t.rows; off = length L; count = on_count t.rows rs });
      off = overlay (flat L) off;
      solution = overlay (flat (on_cubes t.p t.rows ts rs)) solution;
      cards = overlay (replicate (on_count t.rows rs) blank) cards;
      work = overlay (replicate (has * t.p) 0) work;
      numbers = overlay (replicate has 0) numbers;
    }
listed_by false t L ts rs off solution cards work numbers =
    let has = area_length t.p (length work) (length numbers) in
    let most = off_most t.p (length off) in
    record {
      answer = Err (t, by_engine (Off most));
      off = overlay (flat (take most L)) off;
      solution = solution;
      cards = cards;
      work = overlay (replicate (has * t.p) 0) work;
      numbers = overlay (replicate has 0) numbers;
    }

abbrev pub opened_by : Verdict → Filling → Cover → List ℕ → List Card → List ℕ → List ℕ → List Card → List ℕ → List ℕ → Opening
opened_by (Ok x) t L ts rs off solution cards work numbers =
    listed_by (nat_le (length L) (off_most t.p (length off))) t L ts rs off solution cards work numbers
opened_by (Err c) t L ts rs off solution cards work numbers = leaving (Err (t, by_engine c)) off solution cards work numbers

-- from the table and the areas: universe, table and its cards, off, solution and its cards, work and its numbers
abbrev pub opening : Filling → List ℕ → List ℕ → List Card → List ℕ → List ℕ → List Card → List ℕ → List ℕ → Opening
opening t us ts rs off solution cards work numbers =
    opened_by
    (open_verdict t.p t.rows (on_count t.rows rs) (length us) (area_length t.p (length ts) (length rs))
    (area_length t.p (length solution) (length cards)) (area_length t.p (length work) (length numbers)))
    t (off_list t.p t.rows us ts) ts rs off solution cards work numbers
