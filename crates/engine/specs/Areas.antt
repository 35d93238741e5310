-- The lengths of areas, and what a call leaves in them.
use Rattle.std.specs.Prelude.{ℕ, ◌+◌, ◌-◌, ◌*◌, List, ◌++◌, length, replicate}
use Rattle.cubes.specs.Areas.{flat, overlay}
use Rattle.cubes.specs.Cubes.{Cover}
use Rattle.table.specs.declared.card.Card.{Card}
use Rattle.table.specs.Cards.{blank, area_length}
use Rattle.table.specs.Filling.{Verdict, ◌then◌, area_verdict}
use Rattle.table.specs.declared.areas.Lengths.{Lengths}

-- the areas, the lowest first, by the lengths that they have and those that are needed; an area that is not used needs nothing
abbrev pub areas_verdict : Lengths → Lengths → Verdict
areas_verdict has needs =
    area_verdict 1 has.universe needs.universe
    then (area_verdict 2 has.table needs.table
    then (area_verdict 3 has.off needs.off
    then (area_verdict 4 has.solution needs.solution
    then (area_verdict 5 has.work needs.work
    then area_verdict 6 has.line needs.line))))

-- the work cubes that a table of so many rows and a solution of so many cubes need
abbrev pub work_needed : ℕ → ℕ → ℕ → ℕ
work_needed p rows count = 1 + (p - 1) * (rows + count)

-- the solution with the list E in its first cubes, and empty parts behind it, up to n cubes
abbrev pub settled : ℕ → ℕ → Cover → List ℕ → List ℕ
settled p n E xs = overlay (flat E ++ replicate ((n - length E) * p) 0) xs

-- the first n cards all zeros
abbrev pub blanked : ℕ → List Card → List Card
blanked n cs = overlay (replicate n blank) cs

-- the work area all empty parts, and the numbers beside them all zeros
abbrev pub cleared_work : ℕ → List ℕ → List ℕ → List ℕ
cleared_work p work numbers = overlay (replicate (area_length p (length work) (length numbers) * p) 0) work

abbrev pub cleared_numbers : ℕ → List ℕ → List ℕ → List ℕ
cleared_numbers p work numbers = overlay (replicate (area_length p (length work) (length numbers)) 0) numbers
