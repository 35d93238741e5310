-- A set of values is a natural number: the value v is a member where bit v is set.
use Rattle.std.specs.Prelude.{ℕ, zero, suc, ◌+◌, ◌-◌, ◌/◌, ◌%◌, ◌^◌, Bool, cond, not, ◌==◌, bit_and}

-- v is a member of s
abbrev pub has : ℕ → ℕ → Bool
has s zero = s % 2 == 1
has s (suc v) = has (s / 2) v

-- the members of a that b lacks
abbrev pub minus : ℕ → ℕ → ℕ
minus a b = a - bit_and a b

-- s has a member
abbrev pub some : ℕ → Bool
some s = not (s == 0)

-- how many of the values below n are members of s
abbrev pub members : ℕ → ℕ → ℕ
members s zero = 0
members s (suc n) = members s n + cond (has s n) 1 0

-- the values 0 up to a size less 1
abbrev pub whole : ℕ → ℕ
whole size = 2 ^ size - 1
