-- What the calls keep of a list of cubes, and what they make of it.
use Rattle.std.specs.Prelude.{◌≡◌, ℕ, ◌<◌, ◌≤◌, true, false, ◌∷◌, ◌++◌, length}
use Rattle.std.specs.List.{ContainsAt, AllByRecursion}
use Rattle.cubes.specs.Cubes.{Cube, Vertex, Cover, Wide, live, holds, held, covers}
use Rattle.moves.specs.Widen.{touches, Full}

-- no cube has an empty part
abbrev pub Alive : Cover → Type 0
Alive C = AllByRecursion (λ (c : Cube). live c ≡ true) C

-- each cube lies within U
abbrev pub Within : Cube → Cover → Type 0
Within U C = AllByRecursion (λ (c : Cube). covers U c ≡ true) C

-- no cube meets a cube of R
abbrev pub Apart : Cover → Cover → Type 0
Apart R C = AllByRecursion (λ (c : Cube). touches c R ≡ false) C

-- in no part can a value of U be added to the cube without meeting R
abbrev pub PrimeIn : ℕ → Cube → Cover → Cube → Type 0
PrimeIn p U R c = (k : ℕ) → k < p → Full k U c R

-- whichever cube is struck out, a vertex is lost that no cube of D holds
abbrev pub Needed : ℕ → Cover → Cover → Type 0
Needed p D C =
    (X : Cover) (c : Cube) (Y : Cover) → C ≡ X ++ c ∷ Y
    → (v : Vertex) × (length v ≡ p) × (holds c v ≡ true) × (held (X ++ Y) v ≡ false) × (held D v ≡ false)

-- what Expand makes of C
pub record Expanded (p : ℕ) (U : Cube) (R C E : Cover) : Type 0 where
  pub wide : Wide p E
  pub within : Within U E
  pub apart : Apart R E
  pub prime : AllByRecursion (PrimeIn p U R) E
  pub keeps : (v : Vertex) → held C v ≡ true → held E v ≡ true
  pub fewer : length E ≤ length C

-- what Drop makes of C: each cube left is one of C, and has no empty part
pub record Dropped (p : ℕ) (D C E : Cover) : Type 0 where
  pub wide : Wide p E
  pub among : AllByRecursion (ContainsAt C) E
  pub alive : Alive E
  pub same : (v : Vertex) → held D v ≡ false → held E v ≡ held C v
  pub no_more : (v : Vertex) → held E v ≡ true → held C v ≡ true
  pub needed : Needed p D E
  pub fewer : length E ≤ length C

-- what Finish makes of C
pub record Finished (p : ℕ) (U : Cube) (R D C E : Cover) : Type 0 where
  pub wide : Wide p E
  pub alive : Alive E
  pub within : Within U E
  pub apart : Apart R E
  pub prime : AllByRecursion (PrimeIn p U R) E
  pub needed : Needed p D E
  pub keeps : (v : Vertex) → held C v ≡ true → held D v ≡ false → held E v ≡ true
  pub fewer : length E ≤ length C
