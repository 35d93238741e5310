-- What is proved of the definitions.
use Rattle.std.specs.Prelude.{ℕ, ◌≤◌, length}
use Rattle.cubes.specs.Cubes.{Cube}
use Rattle.listing.specs.Text.{cube_line}

-- a line of at most 16 parts has at most 1,040 bytes: 64 marks to a part, a space between parts, a newline
abbrev pub LineFits : Type 0
LineFits = (most : ℕ) (U c : Cube) → most ≤ 64 → length c ≤ 16 → length (cube_line most U c) ≤ 1040
