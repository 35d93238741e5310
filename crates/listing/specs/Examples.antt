-- Worked cases. A set of values is written as a number: 1 is {0}, 2 is {1}, 3 is {0, 1}, 5 is {0, 2}, 7 is {0, 1, 2}.
use Rattle.std.specs.Prelude.{◌≡◌, ℕ, List, [], ◌∷◌, codes}
use Rattle.std.specs.List.{AllByRecursion}
use Rattle.cubes.specs.Cubes.{Cube}
use Rattle.listing.specs.Text.{cube_text, cube_line, heading_line}

-- what is printed, and the bytes that come of it
pub data Case : Type 0 where
  -- a cube: the kind's most, the universe, the cube
  text : ℕ → Cube → Cube → List ℕ → Case
  -- the same, as a line
  line : ℕ → Cube → Cube → List ℕ → Case
  -- the heading of so many cubes
  heading : ℕ → List ℕ → Case

-- the bytes are what the case says
abbrev pub Right : Case → Type 0
Right (text most U c bytes) = cube_text most U c ≡ bytes
Right (line most U c bytes) = cube_line most U c ≡ bytes
Right (heading n bytes) = heading_line n ≡ bytes

abbrev pub cases : List Case
cases =
    -- ternary: {0}, {0}, {0, 1}
    text 2 (3 ∷ 3 ∷ 3 ∷ []) (1 ∷ 1 ∷ 3 ∷ []) (codes "00-")
    -- {1}, none, {0}
    ∷ text 2 (3 ∷ 3 ∷ 3 ∷ []) (2 ∷ 0 ∷ 1 ∷ []) (codes "1~0")
    -- the set decides, and not the size of the part: a whole part of size 1
    ∷ text 2 (1 ∷ []) (1 ∷ []) (codes "0")
    -- words of the sizes 3 and 2: {0, 2}, {1}
    ∷ text 64 (7 ∷ 3 ∷ []) (5 ∷ 2 ∷ []) (codes "101 01")
    -- a part of the universe that has the values 0 and 2 alone: {2}
    ∷ text 64 (5 ∷ []) (4 ∷ []) (codes "01")
    -- the same in the middle, and a part with no value
    ∷ line 64 (7 ∷ 5 ∷ 3 ∷ []) (2 ∷ 5 ∷ 0 ∷ []) (codes "010 11 00\n")
    ∷ line 2 (3 ∷ 3 ∷ []) (3 ∷ 2 ∷ []) (codes "-1\n")
    -- no part
    ∷ line 64 [] [] (codes "\n")
    ∷ heading 0 (codes "L 0\n")
    ∷ heading 512 (codes "L 512\n")
    ∷ []

abbrev pub AllRight : Type 0
AllRight = AllByRecursion Right cases
