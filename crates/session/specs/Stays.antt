-- How many places of an area a call wrote, from the start: those behind them are the very parts that were there.
use Rattle.std.specs.Prelude.{ℕ, ◌*◌, cond, Ok, Err, Result, ◌==◌}
use Rattle.faults.specs.Codes.{number, first_place}
use Rattle.faults.specs.declared.Fault.{Fault}
use Rattle.table.specs.Cards.{area_length}
use Rattle.session.specs.States.{Filling, Opened}

-- Open writes the off list; after `off` the cubes that fit, which its first place counts; on another refusal nothing.
abbrev pub off_written : Result Opened (Filling × Fault) → ℕ
off_written (Ok o) = o.off * o.p
off_written (Err e) = cond (number e.1.cause == 13) (first_place e.1.cause * e.0.p) 0

abbrev pub solution_written : Result Opened (Filling × Fault) → ℕ
solution_written (Ok o) = o.count * o.p
solution_written (Err e) = 0

-- the whole work area, where Open came so far as to use it; the lengths are those of the parts and of the numbers
abbrev pub work_written : Result Opened (Filling × Fault) → ℕ → ℕ → ℕ
work_written (Ok o) parts beside = area_length o.p parts beside * o.p
work_written (Err e) parts beside = cond (number e.1.cause == 13) (area_length e.0.p parts beside * e.0.p) 0
