-- Sessions as plain numbers, and what calls answer in terms of them.
use Rattle.std.specs.Prelude.{ℕ, Ok, Err, Result}
use Rattle.faults.specs.declared.Cause.{Cause}
use Rattle.faults.specs.declared.Fault.{Fault}
use Rattle.faults.specs.declared.Layer.TheVariants.{Table as TableLayer, Engine}
use Rattle.session.specs.declared.types.Open.{Open}
use Rattle.session.specs.declared.types.Table.{Table}

-- a table that is being filled
pub record Filling : Type 0 where
  pub p : ℕ
  pub rows : ℕ

-- an open session
pub record Opened : Type 0 where
  pub p : ℕ
  pub rows : ℕ
  pub off : ℕ
  pub count : ℕ

abbrev pub filling : Table → Filling
filling t = record { p = t.p; rows = t.rows }

abbrev pub opened : Open → Opened
opened o = record { p = o.p; rows = o.rows; off = o.off; count = o.count }

abbrev pub begun_answer : Result Table Fault → Result Filling Fault
begun_answer (Ok t) = Ok (filling t)
begun_answer (Err f) = Err f

abbrev pub added_answer : Result Table (Table × Fault) → Result Filling (Filling × Fault)
added_answer (Ok t) = Ok (filling t)
added_answer (Err e) = Err (filling e.0, e.1)

abbrev pub opened_answer : Result Open (Table × Fault) → Result Opened (Filling × Fault)
opened_answer (Ok o) = Ok (opened o)
opened_answer (Err e) = Err (filling e.0, e.1)

abbrev pub by_table : Cause → Fault
by_table c = record { layer = TableLayer; cause = c }

abbrev pub by_engine : Cause → Fault
by_engine c = record { layer = Engine; cause = c }
