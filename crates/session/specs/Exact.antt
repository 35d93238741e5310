-- What Open promises in the subject's own words.
use Rattle.std.specs.Prelude.{◌≡◌, ℕ, true, ◌↔◌, List, take, Ok, Err, Result}
use Rattle.faults.specs.declared.Fault.{Fault}
use Rattle.cubes.specs.Areas.{cubes}
use Rattle.cubes.specs.Cubes.{Cube, Cover, Vertex, held}
use Rattle.cubes.specs.Tables.{Row, Point, Off, Lawful, on_rows}
use Rattle.table.specs.declared.card.Card.{Card}
use Rattle.table.specs.Cards.{rows_of}
use Rattle.session.specs.States.{Filling, Opened}

-- Of a table with the universe U and the rows T, opened with p parts: some cube of the off list R holds a vertex exactly if it is an off
-- vertex; the cubes of the solution C are the ON rows in order, and so C holds every care vertex and no off vertex.
pub record Exactly (most p : ℕ) (U : Cube) (T : List Row) (R C : Cover) : Type 0 where
  pub off : (v : Vertex) → Point p most v → (held R v ≡ true) ↔ Off U T v
  pub on : C ≡ on_rows T
  pub lawful : Lawful p most U T C

-- Where Open answers, of the areas of universe and table with its cards before, and of off list and solution after.
abbrev pub OpensExactly : ℕ → Result Opened (Filling × Fault) → List ℕ → List ℕ → List Card → List ℕ → List ℕ → Type 0
OpensExactly most (Ok o) us ts rs off solution =
    Exactly most o.p (take o.p us) (rows_of o.p o.rows ts rs) (cubes o.p o.off off) (cubes o.p o.count solution)
OpensExactly most (Err e) us ts rs off solution = Unit {0}
