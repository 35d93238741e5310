-- The calls on a solution, for a universe U, an off list R and the rows D that do not matter.
use Rattle.std.specs.Prelude.{length}
use Rattle.cubes.specs.Cubes.{Cube, Cover}
use Rattle.orders.specs.Rules.{Rule, reversed}
use Rattle.moves.specs.Items.{cubes_of, started, Act, taking}
use Rattle.moves.specs.Expand.{expanding}
use Rattle.moves.specs.Drop.{dropping}

-- every cube is taken
abbrev pub all_taken : Rule → Act → Cover → Cover
all_taken B act C = cubes_of (taking (length C) B act (started C))

unfoldable pub expand : Rule → Cube → Cover → Cover → Cover
expand B U R C = all_taken B (expanding U R) C

unfoldable pub drop_spare : Rule → Cover → Cover → Cover
drop_spare B D C = all_taken B (dropping D) C

-- Expand, then Drop under the reversed order
abbrev pub finish : Rule → Cube → Cover → Cover → Cover → Cover
finish B U R D C = drop_spare (reversed B) D (expand B U R C)
