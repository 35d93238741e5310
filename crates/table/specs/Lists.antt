-- Rows and off list of a table that is read as a list.
use Rattle.std.specs.Prelude.{ℕ, cond, List, map, length, Result, Ok, Err, nat_le}
use Rattle.faults.specs.declared.Cause.{Cause}
use Rattle.faults.specs.declared.Cause.TheVariants.{Off}
use Rattle.cubes.specs.declared.list.Cubes.{Cubes}
use Rattle.cubes.specs.Cubes.{Cover}
use Rattle.cubes.specs.Tables.{Row}
use Rattle.table.specs.declared.rows.Rows.{Rows}
use Rattle.table.specs.Cards.{rows_of}
use Rattle.table.specs.Opening.{off_list}

-- the rows, where s gives the set of a part
abbrev pub rows_in : {X : Type 0} → (X → ℕ) → Rows X → List Row
rows_in s r = rows_of r.cubes.p r.cubes.n (map s r.cubes.parts.now) r.cards.now

-- the off list of a universe and the rows of a list
abbrev pub off_of : {X : Type 0} → (X → ℕ) → List X → Cubes X → Cover
off_of s us l = off_list l.p l.n (map s us) (map s l.parts.now)

-- how many off cubes there are, or the refusal where they are more than may be written
abbrev pub off_answer : ℕ → Cover → Result ℕ Cause
off_answer most C = cond (nat_le (length C) most) (Ok (length C)) (Err (Off most))
