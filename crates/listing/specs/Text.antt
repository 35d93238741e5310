-- How a cube prints, as the codes of the characters: a mark for each value or each part, a space between parts, a newline at the end.
use Rattle.std.specs.Prelude.{◌≡◌, ℕ, zero, suc, ◌+◌, Bool, true, false, cond, ◌||◌, List, [], ◌∷◌, ◌++◌, length, take, codes, decimal, ◌==◌}
use Rattle.parts.specs.Sets.{has}
use Rattle.cubes.specs.Areas.{overlay}
use Rattle.cubes.specs.Cubes.{Cube}

-- ---- a part

-- `1` for a value that the set has, `0` for one that it lacks
abbrev pub mark : Bool → ℕ
mark true = 49
mark false = 48

-- a mark for each value below n that the universe's part u has, from 0 up
abbrev pub marks : ℕ → ℕ → ℕ → List ℕ
marks zero u s = []
marks (suc n) u s = marks n u s ++ cond (has u n) (mark (has s n) ∷ []) []

-- `-` for both values, `0` or `1` for that one alone, `~` for none
abbrev pub ternary_mark : ℕ → ℕ
ternary_mark s = cond (has s 0) (cond (has s 1) 45 48) (cond (has s 1) 49 126)

-- where the kind's most is 2 one mark, by the set alone; else the marks of the values
abbrev pub part_text : ℕ → ℕ → ℕ → List ℕ
part_text most u s = cond (most == 2) (ternary_mark s ∷ []) (marks most u s)

-- ---- a cube

-- what stands before part i: a space, but nothing before the first part, and nothing where the most is 2
abbrev pub gap : ℕ → ℕ → List ℕ
gap most i = cond (i == 0 || most == 2) [] (32 ∷ [])

-- parts of a universe and of a cube, the first of them part i, each with what stands before it
abbrev pub parts_text : ℕ → ℕ → Cube → Cube → List ℕ
parts_text most i [] c = []
parts_text most i (u ∷ U) [] = []
parts_text most i (u ∷ U) (s ∷ c) = gap most i ++ (part_text most u s ++ parts_text most (suc i) U c)

abbrev pub cube_text : ℕ → Cube → Cube → List ℕ
cube_text most U c = parts_text most 0 U c

-- the line of a cube
abbrev pub cube_line : ℕ → Cube → Cube → List ℕ
cube_line most U c = cube_text most U c ++ 10 ∷ []

-- the line before the cubes: how many there are
abbrev pub heading_line : ℕ → List ℕ
heading_line n = codes "L " ++ (decimal n ++ codes "\n")

-- ---- where it is written

-- the line with the bytes written from a place on
abbrev pub placed : ℕ → List ℕ → List ℕ → List ℕ
placed at bytes line = overlay (take at line ++ bytes) line

-- the bytes were written into a line from a place on, and `end` is the place after them
pub record Wrote (at : ℕ) (bytes before after : List ℕ) (end : ℕ) : Type 0 where
  pub line : after ≡ placed at bytes before
  pub place : end ≡ at + length bytes
