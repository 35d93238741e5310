-- One relation between a table, its off list and a list of cubes, which the calls keep.
use Rattle.std.specs.Prelude.{◌≡◌, ℕ, ◌-◌, ◌^◌, ◌≤◌, true, ◌↔◌, List, length}
use Rattle.std.specs.List.{AllByRecursion}
use Rattle.cubes.specs.Cubes.{Cube, Vertex, Cover, Wide, held}
use Rattle.cubes.specs.Tables.{Row, all_rows, Point, Off, Lawful}
use Rattle.moves.specs.Sound.{Alive, Within}

-- the part has all values below a size, which is from 1 to the most
abbrev pub Sized : ℕ → ℕ → Type 0
Sized most u = (s : ℕ) × (1 ≤ s) × (s ≤ most) × (u ≡ 2 ^ s - 1)

-- a universe as Begin writes it, and rows with a value in every part and none that the universe lacks
pub record Proper (p most : ℕ) (U : Cube) (T : List Row) : Type 0 where
  pub parts : length U ≡ p
  pub one : 1 ≤ p
  pub sizes : AllByRecursion (Sized most) U
  pub wide : Wide p (all_rows T)
  pub alive : Alive (all_rows T)
  pub within : Within U (all_rows T)

-- the table is proper, R holds exactly the off vertices, and C is lawful, with no empty part and within the universe
pub record Standing (p most : ℕ) (U : Cube) (T : List Row) (R C : Cover) : Type 0 where
  pub table : Proper p most U T
  pub off_wide : Wide p R
  pub off_exact : (v : Vertex) → Point p most v → (held R v ≡ true) ↔ Off U T v
  pub wide : Wide p C
  pub alive : Alive C
  pub within : Within U C
  pub lawful : Lawful p most U T C
