-- Drop: a cube goes that has no vertex of its own beside the others and the rows that do not matter.
use Rattle.std.specs.Prelude.{cond, List, [], ◌∷◌, ◌++◌, map}
use Rattle.cubes.specs.Cubes.{Cover}
use Rattle.moves.specs.Items.{Item, cubes_of, placed, Act}
use Rattle.moves.specs.Kept.{reduced, none_left}

-- the cubes stand where the item stood
abbrev pub put : List Item → Item → List Item → Cover → List Item
put X f Y C = X ++ map (placed f) C ++ Y

-- f goes where nothing is left of it
abbrev pub dropping : Cover → Act
dropping D X f Y = put X f Y (cond (none_left (reduced f.cube (cubes_of X ++ cubes_of Y ++ D))) [] (f.cube ∷ []))
