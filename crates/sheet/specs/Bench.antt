-- The bench: the areas that it has, the states of a sheet, and what each command does there. All is made of what the calls answer and leave.
use Rattle.std.specs.Prelude.{ℕ, ◌+◌, ◌-◌, ◌*◌, ◌≤◌, cond, ◌||◌, List, [], ◌++◌, map, replicate, Ok, Err, codes, decimal, Result, ◌==◌, nat_le, nat_lt, slice_index, slice_set}
use Rattle.faults.specs.declared.Cause.{Cause}
use Rattle.faults.specs.declared.Cause.TheVariants.{Misplaced, Operand, Shape}
use Rattle.faults.specs.declared.Fault.{Fault}
use Rattle.faults.specs.declared.Layer.TheVariants.{Sheet}
use Rattle.commands.specs.declared.Command.{Command}
use Rattle.commands.specs.declared.Command.TheVariants.{Kind, Size, Value, On, Dc, Open}
use Rattle.commands.specs.Commands.{letter}
use Rattle.table.specs.declared.card.Card.{Card}
use Rattle.faults.specs.declared.Kind as kinds
use Rattle.faults.specs.declared.Kind.TheVariants as kind
use Rattle.faults.specs.declared.State as states
use Rattle.faults.specs.declared.State.TheVariants as state
use Rattle.faults.specs.Codes.{state_number}
use Rattle.parts.specs.Sets.{whole}
use Rattle.table.specs.Cards.{blank}
use Rattle.session.specs.Calls.{begun, Begun, added, Added, opening, Opening}
use Rattle.session.specs.States.{Filling, Opened, by_table}

-- what the bench's areas hold
pub record Memory : Type 0 where
  pub universe : List ℕ
  pub table : List ℕ
  pub rows : List Card
  pub off : List ℕ
  pub solution : List ℕ
  pub cards : List Card
  pub work : List ℕ
  pub numbers : List ℕ

-- work cubes for tables of 32 rows with 32 solution cubes
abbrev pub work_cubes : ℕ → ℕ
work_cubes p = 1 + (p - 1) * 64

-- the areas for p parts: 8 parts of the universe, 32 rows, 128 off cubes, 32 solution cubes, and enough work cubes
abbrev pub fresh : ℕ → Memory
fresh p =
    record {
      universe = replicate 8 0;
      table = replicate (32 * p) 0;
      rows = replicate 32 blank;
      off = replicate (128 * p) 0;
      solution = replicate (32 * p) 0;
      cards = replicate 32 blank;
      work = replicate (work_cubes p * p) 0;
      numbers = replicate (work_cubes p) 0;
    }

-- the areas as Begin, Add and Open leave them
abbrev pub after_begin : Memory → Begun → Memory
after_begin m b =
    record {
      universe = b.universe;
      table = m.table;
      rows = m.rows;
      off = m.off;
      solution = m.solution;
      cards = m.cards;
      work = m.work;
      numbers = m.numbers;
    }

abbrev pub after_add : Memory → Added → Memory
after_add m a =
    record {
      universe = m.universe;
      table = a.table;
      rows = a.rows;
      off = m.off;
      solution = m.solution;
      cards = m.cards;
      work = m.work;
      numbers = m.numbers;
    }

abbrev pub after_open : Memory → Opening → Memory
after_open m o =
    record {
      universe = m.universe;
      table = m.table;
      rows = m.rows;
      off = o.off;
      solution = o.solution;
      cards = o.cards;
      work = o.work;
      numbers = o.numbers;
    }

-- sizes for which a word has a bit for each value
abbrev pub Small : List ℕ → Type 0
Small sizes = (k : ℕ) → slice_index sizes k ≤ 64

-- a table that is being filled: its numbers, the parts declared, the universe as a row of words, and the row in hand, both of sixteen words
pub record Drafted : Type 0 where
  pub table : Filling
  pub p : ℕ
  pub full : List ℕ
  pub row : List ℕ

-- The states; `most` is the kind's most.
pub data State : Type 0 where
  -- 0: nothing is said yet
  start : State
  -- 1: the kind is known: most, sizes (sixteen, zeros past the parts declared), parts declared
  sizing : ℕ → List ℕ → ℕ → State
  -- 2: the table is begun: most, table, areas
  filling : ℕ → Drafted → Memory → State
  -- 3: the table is open
  opened : Opened → Memory → State

-- the state after a command, and what it prints
abbrev pub Step : Type 0
Step = Result (State × List ℕ) Fault

abbrev pub by_sheet : Cause → Fault
by_sheet c = record { layer = Sheet; cause = c }

abbrev pub misplaced : Command → states.State → Step
misplaced c at = Err (by_sheet (Misplaced (letter c) (state_number at)))

-- ---- state 0

-- 0 is the word kind, 1 the ternary kind
abbrev pub kind_chosen : ℕ → Step
kind_chosen k =
    cond (k == 0) (Ok (sizing 64 (replicate 16 0) 0, []))
    (cond (k == 1) (Ok (sizing 2 (replicate 16 0) 0, [])) (Err (by_sheet (Operand k))))

abbrev pub at_start : Command → Step
at_start (Kind k) = kind_chosen k
at_start (Size s) = misplaced (Size s) state.Start
at_start (Value part word) = misplaced (Value part word) state.Start
at_start On = misplaced On state.Start
at_start Dc = misplaced Dc state.Start
at_start Open = misplaced Open state.Start

-- ---- state 2

-- the universe as a row of words
abbrev pub in_hand : List ℕ → List ℕ
in_hand sizes = map whole sizes

-- a word for a part of the row in hand
abbrev pub valued : Drafted → ℕ → ℕ → Drafted
valued d part word = record { table = d.table; p = d.p; full = d.full; row = slice_set d.row part word }

-- what Add left: the next row starts from the universe again
abbrev pub row_added : ℕ → Drafted → Memory → Added → Step
row_added most d m a =
    elim a.answer [
      | Ok t ↦ Ok (filling most (record { table = t; p = d.p; full = d.full; row = d.full }) (after_add m a), [])
      | Err e ↦ Err e.1
    ]

abbrev pub adding : ℕ → Drafted → kinds.Kind → Memory → Step
adding most d kind m = row_added most d m (added most d.table kind d.row m.universe m.table m.rows)

-- O prints the ON rows and the off cubes
abbrev pub open_line : ℕ → ℕ → List ℕ
open_line on off = codes "O " ++ (decimal on ++ (codes " " ++ (decimal off ++ codes "\n")))

-- what Open left
abbrev pub table_opened : Memory → Opening → Step
table_opened m o =
    elim o.answer [
      | Ok t ↦ Ok (opened t (after_open m o), open_line t.count t.off)
      | Err e ↦ Err e.1
    ]

abbrev pub opening_table : Filling → Memory → Step
opening_table t m = table_opened m (opening t m.universe m.table m.rows m.off m.solution m.cards m.work m.numbers)

abbrev pub at_filling : ℕ → Drafted → Memory → Command → Step
at_filling most d m (Kind k) = misplaced (Kind k) state.Filling
at_filling most d m (Size n) = misplaced (Size n) state.Filling
at_filling most d m (Value part word) =
    cond (nat_lt part d.p) (Ok (filling most (valued d part word) m, [])) (Err (by_sheet (Operand part)))
at_filling most d m On = adding most d kind.On m
at_filling most d m Dc = adding most d kind.Dc m
at_filling most d m Open = opening_table d.table m

-- ---- state 1

-- one part more: a seventeenth is refused before its size is looked at
abbrev pub part_declared : ℕ → List ℕ → ℕ → ℕ → Step
part_declared most sizes p size =
    cond (nat_le 16 p) (Err (by_table (Shape (p + 1) 0)))
    (cond (nat_lt size 1 || nat_lt most size) (Err (by_table (Shape p size))) (Ok (sizing most (slice_set sizes p size) (p + 1), [])))

-- what Begin left; the universe is in hand
abbrev pub table_begun : List ℕ → ℕ → Memory → Begun → Result (Drafted × Memory) Fault
table_begun sizes p m b =
    elim b.answer [
      | Ok t ↦ Ok (record { table = t; p = p; full = in_hand sizes; row = in_hand sizes }, after_begin m b)
      | Err f ↦ Err f
    ]

abbrev pub beginning : ℕ → List ℕ → ℕ → Memory → Result (Drafted × Memory) Fault
beginning most sizes p m = table_begun sizes p m (begun most p sizes m.universe)

-- the table begins in fresh areas, and the command is obeyed in state 2
abbrev pub begins : ℕ → List ℕ → ℕ → Command → Step
begins most sizes p c = elim (beginning most sizes p (fresh p)) [ Ok b ↦ at_filling most b.0 b.1 c | Err f ↦ Err f ]

abbrev pub at_sizing : ℕ → List ℕ → ℕ → Command → Step
at_sizing most sizes p (Kind k) = misplaced (Kind k) state.Sizing
at_sizing most sizes p (Size n) = part_declared most sizes p n
at_sizing most sizes p (Value part word) = cond (nat_lt part p) (begins most sizes p (Value part word)) (Err (by_sheet (Operand part)))
at_sizing most sizes p On = begins most sizes p On
at_sizing most sizes p Dc = begins most sizes p Dc
at_sizing most sizes p Open = begins most sizes p Open

-- ---- state 3

abbrev pub at_open : Command → Step
at_open (Kind k) = misplaced (Kind k) state.Opened
at_open (Size n) = misplaced (Size n) state.Opened
at_open (Value part word) = misplaced (Value part word) state.Opened
at_open On = misplaced On state.Opened
at_open Dc = misplaced Dc state.Opened
at_open Open = misplaced Open state.Opened
