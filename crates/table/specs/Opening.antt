-- What Open checks and makes.
use Rattle.std.specs.Prelude.{ℕ, ◌+◌, ◌-◌, ◌*◌, ◌/◌, min, List, take}
use Rattle.cubes.specs.Areas.{cubes}
use Rattle.cubes.specs.Cubes.{Cover, rest}
use Rattle.table.specs.Filling.{Verdict, ◌then◌, area_verdict}

-- the areas that Open uses, the lowest first, by their lengths: the universe in parts, the others in cubes
abbrev pub open_verdict : ℕ → ℕ → ℕ → ℕ → ℕ → ℕ → ℕ → Verdict
open_verdict p rows on universe table solution work =
    area_verdict 1 universe p then (area_verdict 2 table rows then (area_verdict 4 solution on then area_verdict 5 work (1 + (p - 1) * rows)))

-- the most cubes that the off list may have, in an off area of so many parts
abbrev pub off_most : ℕ → ℕ → ℕ
off_most p parts = min 4096 (parts / p)

-- the off list: the rest of the universe against the rows in order
abbrev pub off_list : ℕ → ℕ → List ℕ → List ℕ → Cover
off_list p rows us ts = rest (take p us) (cubes p rows ts)
