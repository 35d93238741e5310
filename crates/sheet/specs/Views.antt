-- What the code holds, as states of the bench.
use Rattle.std.specs.Prelude.{◌≡◌, ℕ, List, [], ◌++◌, map, replicate, Some, None, Ok, Err, string_bytes, vec_items, Option, Result}
use Rattle.faults.specs.declared.Fault.{Fault}
use Rattle.commands.specs.declared.Command.{Command}
use Rattle.faults.specs.Codes.{refusal_line}
use Rattle.session.specs.States as session
use Rattle.sheet.specs.declared.types.Areas.{Areas}
use Rattle.sheet.specs.declared.types.Draft.{Draft}
use Rattle.sheet.specs.declared.progress.Progress.{Progress}
use Rattle.sheet.specs.declared.types.Sizes.{Sizes}
use Rattle.sheet.specs.declared.stage.Stage.{Stage}
use Rattle.sheet.specs.declared.stage.Stage.TheVariants as stage
use Rattle.sheet.specs.declared.types.Tally.{Tally}
use Rattle.sheet.specs.declared.starting.Kind.{Kind}
use Rattle.sheet.specs.declared.starting.Kind.TheVariants as kind
use Rattle.sheet.specs.declared.stop.Stop.{Stop}
use Rattle.sheet.specs.declared.stop.Stop.TheVariants as stop
use Rattle.sheet.specs.Bench.{Memory, Drafted, State, sizing, filling, opened, Step, begins, open_line}

abbrev pub memory : {P : Type 0} → (P → ℕ) → Areas P → Memory
memory set a =
    record {
      universe = map set (vec_items a.universe);
      table = map set (vec_items a.table);
      rows = vec_items a.rows;
      off = map set (vec_items a.off);
      solution = map set (vec_items a.solution);
      cards = vec_items a.cards;
      work = map set (vec_items a.work);
      numbers = vec_items a.numbers;
    }

abbrev pub drafted : Draft → Drafted
drafted d = record { table = session.filling d.table; p = d.p; full = d.full; row = d.row }

abbrev pub state : ℕ → Stage → Memory → State
state most (stage.Filling d) m = filling most (drafted d) m
state most (stage.Opened o) m = opened (session.opened o) m

-- what is printed
abbrev pub said_line : Option Tally → List ℕ
said_line None = []
said_line (Some t) = open_line t.on t.off

-- What a function answered, with what it left: in state 0 nothing, in state 1 the sizes, to Begin and to a command in state 2 or 3 the areas
abbrev pub chosen : Result Kind Fault → Step
chosen (Ok kind.Word) = Ok (sizing 64 (replicate 16 0) 0, [])
chosen (Ok kind.Ternary) = Ok (sizing 2 (replicate 16 0) 0, [])
chosen (Err f) = Err f

abbrev pub declared : ℕ → Result (Unit {0}) Fault → Sizes → Step
declared most (Ok done) s = Ok (sizing most s.all s.p, [])
declared most (Err f) s = Err f

abbrev pub sized : ℕ → Result (Option Command) Fault → Sizes → Step
sized most (Ok None) s = Ok (sizing most s.all s.p, [])
sized most (Ok (Some c)) s = begins most s.all s.p c
sized most (Err f) s = Err f

abbrev pub draft : Result Draft Fault → Memory → Result (Drafted × Memory) Fault
draft (Ok d) m = Ok (drafted d, m)
draft (Err f) m = Err f

abbrev pub step : ℕ → Result (Stage × Option Tally) Fault → Memory → Step
step most (Ok r) m = Ok (state most r.0 m, said_line r.1)
step most (Err f) m = Err f

-- what is printed where a sheet is obeyed to its end or to a refusal, with the lines so far; nothing is said of want of memory
abbrev pub Ends : Result (Unit {0}) Stop → Progress → List ℕ → Type 0
Ends (Ok done) p lines = string_bytes p.lines ≡ lines
Ends (Err (stop.Refused f)) p lines = string_bytes p.lines ++ refusal_line f p.at ≡ lines
Ends (Err (stop.Memory e)) p lines = Unit {0}
