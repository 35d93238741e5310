-- What is proved of the definitions, a statement to a name.
use Rattle.std.specs.Prelude.{◌≡◌, ℕ, ◌+◌, true, cond, not, ◌&&◌, ◌↔◌, List, [], ◌∷◌, length}
use Rattle.cubes.specs.Cubes.{Cube, Vertex, Cover, Wide, live, holds, held, meets, covers, rest}
use Rattle.cubes.specs.Tables.{Row, on_rows, all_rows, Point, Off, Lawful}

-- some cube of the rest of the universe holds a vertex exactly if it is an off vertex
abbrev pub RestExact : Type 0
RestExact =
    (p most : ℕ) (U : Cube) (T : List Row) (v : Vertex) → length U ≡ p → Wide p (all_rows T) → Point p most v
    → (held (rest U (all_rows T)) v ≡ true) ↔ Off U T v

-- how many cubes of the cover hold the vertex
abbrev pub count : Cover → Vertex → ℕ
count [] v = 0
count (c ∷ C) v = cond (holds c v) 1 0 + count C v

-- the cubes of the rest are apart: a vertex of it is in one of them
abbrev pub RestApart : Type 0
RestApart = (c : Cube) (C : Cover) (v : Vertex) → Wide (length c) C → count (rest c C) v ≡ cond (holds c v && not (held C v)) 1 0

-- cubes of p parts meet exactly if both hold some vertex of p values
abbrev pub MeetsExact : Type 0
MeetsExact =
    (p : ℕ) (A B : Cube) → length A ≡ p → length B ≡ p
    → (meets A B ≡ true) ↔ ((v : Vertex) × (length v ≡ p) × (holds A v ≡ true) × (holds B v ≡ true))

-- a cube of p parts covers one with no empty part exactly if it holds each vertex of p values that the other holds
abbrev pub CoversExact : Type 0
CoversExact =
    (p : ℕ) (A B : Cube) → length A ≡ p → length B ≡ p → live B ≡ true
    → (covers A B ≡ true) ↔ ((v : Vertex) → length v ≡ p → holds B v ≡ true → holds A v ≡ true)

-- the ON rows of any table hold every care vertex and no off vertex
abbrev pub OnRowsLawful : Type 0
OnRowsLawful = (p most : ℕ) (U : Cube) (T : List Row) → Lawful p most U T (on_rows T)
