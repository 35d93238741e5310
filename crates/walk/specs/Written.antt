-- What is answered of a list that is written as far as it fits.
use Rattle.std.specs.Prelude.{ℕ, cond, length, Result, Ok, Err, nat_le}
use Rattle.cubes.specs.Cubes.{Cover}
use Rattle.walk.specs.declared.rest.TooMany.{TooMany}

-- how many cubes there are, unless they are more than may be written
abbrev pub count_if_whole : ℕ → Cover → Result ℕ TooMany
count_if_whole most C = cond (nat_le (length C) most) (Ok (length C)) (Err (record {}))
