-- The words of the subject, of a table (a universe and rows) and any list of cubes.
use Rattle.std.specs.Prelude.{◌≡◌, ℕ, ◌^◌, ◌<◌, Bool, true, false, cond, List, [], ◌∷◌, ◌++◌, map, length, bit_or, slice_index, slice_set}
use Rattle.std.specs.List.{AllByRecursion}
use Rattle.parts.specs.Sets.{has}
use Rattle.cubes.specs.Cubes.{Cube, Vertex, Cover, holds, held}

-- a row of a table: a cube, marked ON or (a don't-care row) DC
pub record Row : Type 0 where
  pub cube : Cube
  pub on : Bool

-- the cubes of the ON rows, in order
abbrev pub on_rows : List Row → Cover
on_rows [] = []
on_rows (r ∷ T) = cond r.on (r.cube ∷ on_rows T) (on_rows T)

-- the cubes of the DC rows, in order
abbrev pub dc_rows : List Row → Cover
dc_rows [] = []
dc_rows (r ∷ T) = cond r.on (dc_rows T) (r.cube ∷ dc_rows T)

abbrev pub all_rows : List Row → Cover
all_rows T = map (λ (r : Row). r.cube) T

-- v is a vertex of p parts: p values, each below the most
abbrev pub Point : ℕ → ℕ → Vertex → Type 0
Point p most v = (length v ≡ p) × AllByRecursion (λ (x : ℕ). x < most) v

-- a care vertex: some ON row holds it, and no DC row
abbrev pub Care : List Row → Vertex → Type 0
Care T v = (held (on_rows T) v ≡ true) × (held (dc_rows T) v ≡ false)

-- an off vertex: the universe holds it, and no row does
abbrev pub Off : Cube → List Row → Vertex → Type 0
Off U T v = (holds U v ≡ true) × (held (all_rows T) v ≡ false)

-- the cubes hold every care vertex and no off vertex
abbrev pub Lawful : ℕ → ℕ → Cube → List Row → Cover → Type 0
Lawful p most U T C = (v : Vertex) → Point p most v → (Care T v → held C v ≡ true) × (Off U T v → held C v ≡ false)

-- with any one more value of the universe, in any part, the cube would hold an off vertex
abbrev pub Prime : ℕ → ℕ → Cube → List Row → Cube → Type 0
Prime p most U T c =
    (k x : ℕ) → k < p → has (slice_index U k) x ≡ true → has (slice_index c k) x ≡ false
    → (v : Vertex) × Point p most v × Off U T v × (holds (slice_set c k (bit_or (slice_index c k) (2 ^ x))) v ≡ true)

-- whichever cube is struck out, a care vertex is lost
abbrev pub Irredundant : ℕ → ℕ → List Row → Cover → Type 0
Irredundant p most T C =
    (X : Cover) (c : Cube) (Y : Cover) → C ≡ X ++ c ∷ Y
    → (v : Vertex) × Point p most v × Care T v × (held C v ≡ true) × (held (X ++ Y) v ≡ false)
