-- The lines that a sheet prints.
use Rattle.std.specs.Prelude.{ℕ, zero, suc, ◌-◌, cond, List, [], ◌++◌, length, drop, Some, None, Ok, Err, Option, Result, nat_lt}
use Rattle.faults.specs.Codes.{refusal_line}
use Rattle.faults.specs.declared.Cause.{Cause}
use Rattle.faults.specs.declared.Cause.TheVariants.{Long}
use Rattle.commands.specs.declared.Command.{Command}
use Rattle.commands.specs.Commands.{reading, width}
use Rattle.sheet.specs.Bench.{State, start, sizing, filling, opened, Step, by_sheet, at_start, at_sizing, at_filling, at_open}

-- what a command does in a state
abbrev pub obeyed : State → Command → Step
obeyed start c = at_start c
obeyed (sizing most sizes p) c = at_sizing most sizes p c
obeyed (filling most d m) c = at_filling most d m c
obeyed (opened o m) c = at_open c

-- What is printed for what a command did: its line and what comes after it, or the refusal with the command's offset.
abbrev pub after_step : (State → List ℕ) → ℕ → Step → List ℕ
after_step more at (Ok r) = r.1 ++ more r.0
after_step more at (Err f) = refusal_line f at

-- what is printed for what was read
abbrev pub after_reading : (Command → State → List ℕ) → ℕ → State → Result (Option Command) Cause → List ℕ
after_reading more at s (Ok (Some c)) = after_step (more c) at (obeyed s c)
after_reading more at s (Ok None) = []
after_reading more at s (Err cause) = refusal_line (by_sheet cause) at

-- what is printed in a state for the bytes that are left of a sheet, which ends at `end`; n is more than the commands to come
abbrev pub printed : ℕ → ℕ → State → List ℕ → List ℕ
printed zero end s bytes = []
printed (suc n) end s bytes = after_reading (λ c t. printed n end t (drop (width c) bytes)) (end - length bytes) s (reading bytes)

-- a command has a byte at least
abbrev pub lines_from : ℕ → State → List ℕ → List ℕ
lines_from end s bytes = printed (suc (length bytes)) end s bytes

-- the lines of a sheet, each with its newline
abbrev pub lines_of : List ℕ → List ℕ
lines_of sheet = cond (nat_lt 4096 (length sheet)) (refusal_line (by_sheet Long) 0) (lines_from (length sheet) start sheet)
