-- What the rows of a list do to a piece.
use Rattle.std.specs.Prelude.{ℕ, suc, cond, [], ◌∷◌}
use Rattle.cubes.specs.Cubes.{Cube, Cover, meets, covers}
use Rattle.walk.specs.declared.rest.Look.{Look}
use Rattle.walk.specs.declared.rest.Look.TheVariants.{Gone, Cut, Free}

-- the first row that meets the piece has the number i, unless a later one covers it all
abbrev pub after : ℕ → Look → Look
after i Gone = Gone
after i (Cut j) = Cut i
after i Free = Cut i

-- the rows from number i on
abbrev pub look_of : Cube → ℕ → Cover → Look
look_of c i [] = Free
look_of c i (d ∷ D) = cond (meets c d) (cond (covers d c) Gone (after i (look_of c (suc i) D))) (look_of c (suc i) D)
