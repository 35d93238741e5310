-- Worked cases. A set of the values 0 and 1 is written as a number: 1 is {0}, 2 is {1}, 3 is {0, 1}.
use Rattle.std.specs.Prelude.{◌≡◌, true, List, [], ◌∷◌}
use Rattle.std.specs.List.{AllByRecursion}
use Rattle.cubes.specs.Cubes.{Cube, Cover, cut, rest}
use Rattle.cubes.specs.Tables.{Row, all_rows, Lawful, Prime, Irredundant}

-- an operation, what it is done to, and what it makes
pub data Case : Type 0 where
  -- a cube cut by another
  cutting : Cube → Cube → Cover → Case
  -- what a cover leaves of a cube
  leaving : Cube → Cover → Cover → Case

-- the operation makes what the case says
abbrev pub Right : Case → Type 0
Right (cutting A B made) = cut A B ≡ made
Right (leaving U C made) = rest U C ≡ made

-- ---- a table of three parts with two values each: --- with the ON rows 000, 001, 011, 111

abbrev pub worked_universe : Cube
worked_universe = 3 ∷ 3 ∷ 3 ∷ []

abbrev pub on_row : Cube → Row
on_row c = record { cube = c; on = true }

abbrev pub worked_rows : List Row
worked_rows = on_row (1 ∷ 1 ∷ 1 ∷ []) ∷ on_row (1 ∷ 1 ∷ 2 ∷ []) ∷ on_row (1 ∷ 2 ∷ 2 ∷ []) ∷ on_row (2 ∷ 2 ∷ 2 ∷ []) ∷ []

-- 00-, -11
abbrev pub worked_cover : Cover
worked_cover = (1 ∷ 1 ∷ 3 ∷ []) ∷ (3 ∷ 2 ∷ 2 ∷ []) ∷ []

-- it is lawful, each of its cubes is prime, and none can be struck out
abbrev pub WorkedCover : Type 0
WorkedCover =
    Lawful 3 2 worked_universe worked_rows worked_cover × AllByRecursion (Prime 3 2 worked_universe worked_rows) worked_cover
    × Irredundant 3 2 worked_rows worked_cover

-- ---- the cases

abbrev pub cases : List Case
cases =
    -- 11 11 11 11 cut by 01 01 11 10 is 10 11 11 11, 01 10 11 11, 01 01 11 01
    cutting (3 ∷ 3 ∷ 3 ∷ 3 ∷ []) (2 ∷ 2 ∷ 3 ∷ 1 ∷ []) ((1 ∷ 3 ∷ 3 ∷ 3 ∷ []) ∷ (2 ∷ 1 ∷ 3 ∷ 3 ∷ []) ∷ (2 ∷ 2 ∷ 3 ∷ 2 ∷ []) ∷ [])
    -- 000, 001, 011, 111 leave of --- 10-, 110, 010
    ∷ leaving worked_universe (all_rows worked_rows) ((2 ∷ 1 ∷ 3 ∷ []) ∷ (2 ∷ 2 ∷ 1 ∷ []) ∷ (1 ∷ 2 ∷ 1 ∷ []) ∷ [])
    ∷ []

abbrev pub AllRight : Type 0
AllRight = AllByRecursion Right cases
