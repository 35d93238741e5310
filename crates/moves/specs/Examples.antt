-- Worked cases. In a part of two values 0 is 1, 1 is 2 and - is 3.
use Rattle.std.specs.Prelude.{◌≡◌, List, [], ◌∷◌, ◌++◌}
use Rattle.std.specs.List.{AllByRecursion}
use Rattle.cubes.specs.Cubes.{Cube, Cover, rest}
use Rattle.cubes.specs.Examples.{worked_universe, worked_rows}
use Rattle.orders.specs.Rules.{Rule, place_rule, light_rule}
use Rattle.moves.specs.Calls.{expand, drop_spare, finish}
use Rattle.moves.specs.Standing.{Proper}

-- a call, what it is given, and what it makes
pub data Case : Type 0 where
  -- by an order, within a universe, against what the rows leave of it: the cubes
  expanding : Rule → Cube → Cover → Cover → Cover → Case
  -- by an order, beside the rows that do not matter: the cubes
  dropping : Rule → Cover → Cover → Cover → Case
  -- by an order, within a universe, against what the rows leave of it, beside those that do not matter: the cubes
  finishing : Rule → Cube → Cover → Cover → Cover → Cover → Case

-- the call makes what the case says
abbrev pub Right : Case → Type 0
Right (expanding B U T C made) = expand B U (rest U T) C ≡ made
Right (dropping B D C made) = drop_spare B D C ≡ made
Right (finishing B U T D C made) = finish B U (rest U T) D C ≡ made

abbrev pub two : Cube
two = 3 ∷ 3 ∷ []

abbrev pub three : Cube
three = 3 ∷ 3 ∷ 3 ∷ []

-- 000, 001, 011, 111
abbrev pub chain : Cover
chain = (1 ∷ 1 ∷ 1 ∷ []) ∷ (1 ∷ 1 ∷ 2 ∷ []) ∷ (1 ∷ 2 ∷ 2 ∷ []) ∷ (2 ∷ 2 ∷ 2 ∷ []) ∷ []

-- 11-, 010, 000
abbrev pub fork : Cover
fork = (2 ∷ 2 ∷ 3 ∷ []) ∷ (1 ∷ 2 ∷ 1 ∷ []) ∷ (1 ∷ 1 ∷ 1 ∷ []) ∷ []

-- 01, 00, 11
abbrev pub corner : Cover
corner = (1 ∷ 2 ∷ []) ∷ (1 ∷ 1 ∷ []) ∷ (2 ∷ 2 ∷ []) ∷ []

-- 11-, 0-1, -11
abbrev pub bridge : Cover
bridge = (2 ∷ 2 ∷ 3 ∷ []) ∷ (1 ∷ 3 ∷ 2 ∷ []) ∷ (3 ∷ 2 ∷ 2 ∷ []) ∷ []

-- -1, -1, 0-, 1-, -0
abbrev pub cross : Cover
cross = (3 ∷ 2 ∷ []) ∷ (3 ∷ 2 ∷ []) ∷ (1 ∷ 3 ∷ []) ∷ (2 ∷ 3 ∷ []) ∷ (3 ∷ 1 ∷ []) ∷ []

-- 1-
abbrev pub half : Cover
half = (2 ∷ 3 ∷ []) ∷ []

-- 010, 11-, 001, 1-1
abbrev pub ring : Cover
ring = (1 ∷ 2 ∷ 1 ∷ []) ∷ (2 ∷ 2 ∷ 3 ∷ []) ∷ (1 ∷ 1 ∷ 2 ∷ []) ∷ (2 ∷ 3 ∷ 2 ∷ []) ∷ []

abbrev pub cases : List Case
cases =
    -- the light ones first: 00-, -11
    expanding light_rule three chain chain ((1 ∷ 1 ∷ 3 ∷ []) ∷ (3 ∷ 2 ∷ 2 ∷ []) ∷ [])
    -- the lightest part first: 010 grows in its second part
    ∷ expanding place_rule three fork fork ((2 ∷ 2 ∷ 3 ∷ []) ∷ (1 ∷ 3 ∷ 1 ∷ []) ∷ [])
    -- each part against the cube as it then is: 01 becomes -1
    ∷ expanding place_rule two corner corner ((3 ∷ 2 ∷ []) ∷ (1 ∷ 3 ∷ []) ∷ [])
    -- -11 goes
    ∷ dropping place_rule [] bridge ((2 ∷ 2 ∷ 3 ∷ []) ∷ (1 ∷ 3 ∷ 2 ∷ []) ∷ [])
    -- by place 0-, 1- are left; the light ones first: -1, -0
    ∷ dropping place_rule [] cross ((1 ∷ 3 ∷ []) ∷ (2 ∷ 3 ∷ []) ∷ [])
    ∷ dropping light_rule [] cross ((3 ∷ 2 ∷ []) ∷ (3 ∷ 1 ∷ []) ∷ [])
    -- of two equal cubes the first goes, and one with an empty part
    ∷ dropping place_rule [] ((2 ∷ 3 ∷ []) ∷ (2 ∷ 3 ∷ []) ∷ (0 ∷ 3 ∷ []) ∷ []) half
    -- the ON row 1- beside the DC row 1-: nothing is left
    ∷ finishing place_rule two (half ++ half) half half []
    -- the last goes first: -10, 11-, -01
    ∷ finishing place_rule three ring [] ring ((3 ∷ 2 ∷ 1 ∷ []) ∷ (2 ∷ 2 ∷ 3 ∷ []) ∷ (3 ∷ 1 ∷ 2 ∷ []) ∷ [])
    ∷ []

abbrev pub AllRight : Type 0
AllRight = AllByRecursion Right cases

-- the table with the ON rows 000, 001, 011, 111 is proper
abbrev pub WorkedProper : Type 0
WorkedProper = Proper 3 2 worked_universe worked_rows
