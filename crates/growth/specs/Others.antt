-- The cubes around one.
use Rattle.std.specs.Prelude.{ℕ, ◌+◌, ◌++◌, take, drop}
use Rattle.cubes.specs.Cubes.{Cover}

-- all cubes but the one at a place
abbrev pub others : ℕ → Cover → Cover
others at C = take at C ++ drop (at + 1) C
