-- Cubes chosen by marks, as code does that passes over the others.
use Rattle.std.specs.Prelude.{ℕ, Bool, true, false, not, List, [], ◌∷◌, map, replicate}
use Rattle.cubes.specs.Cubes.{Cover}
use Rattle.cubes.specs.Tables.{Row}

-- the cubes that are marked
abbrev pub chosen : List Bool → Cover → Cover
chosen [] C = []
chosen (m ∷ M) [] = []
chosen (true ∷ M) (c ∷ C) = c ∷ chosen M C
chosen (false ∷ M) (c ∷ C) = chosen M C

-- the same with a cube of n empty parts for each that is not
abbrev pub veiled : ℕ → List Bool → Cover → Cover
veiled n [] C = []
veiled n (m ∷ M) [] = []
veiled n (true ∷ M) (c ∷ C) = c ∷ veiled n M C
veiled n (false ∷ M) (c ∷ C) = replicate n 0 ∷ veiled n M C

-- the marks that choose the DC rows
abbrev pub dc_marks : List Row → List Bool
dc_marks T = map (λ (r : Row). not r.on) T
