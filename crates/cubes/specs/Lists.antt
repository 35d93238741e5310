-- Lists of cubes that lie in an area.
use Rattle.std.specs.Prelude.{ℕ, List, map}
use Rattle.cubes.specs.declared.list.Cubes.{Cubes}
use Rattle.cubes.specs.declared.list.CubesIter.{CubesIter}
use Rattle.cubes.specs.Areas.{cubes}
use Rattle.cubes.specs.Cubes.{Cover}

-- the sets of the cubes of a list, where s gives the set of a part
abbrev pub sets_of : {X : Type 0} → (X → ℕ) → Cubes X → Cover
sets_of s l = cubes l.p l.n (map s l.parts.now)

-- the cubes that are still to come
abbrev pub left : {X : Type 0} → CubesIter X → List (List X)
left i = cubes i.p i.n i.rest.now
