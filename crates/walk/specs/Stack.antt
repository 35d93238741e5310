-- A stack of pieces of a cube, each with the number of the next row that it is to be cut by.
use Rattle.std.specs.Prelude.{ℕ, zero, suc, ◌+◌, ◌-◌, ◌*◌, ◌^◌, ◌≤◌, cond, List, [], ◌∷◌, ◌++◌, length, drop, bit_and, slice_index}
use Rattle.parts.specs.Sets.{minus, some}
use Rattle.cubes.specs.Areas.{cube_at}
use Rattle.cubes.specs.Cubes.{Cube, Cover, rest}

-- a piece, and the number of the next row
abbrev pub Task : Type 0
Task = ℕ × Cube

-- the first d cubes of an area with their numbers, the last first
abbrev pub stack_of : ℕ → ℕ → List ℕ → List ℕ → List Task
stack_of p zero ws ns = []
stack_of p (suc d) ws ns = (slice_index ns d, cube_at p d ws) ∷ stack_of p d ws ns

-- cubes with one number
abbrev pub numbered : ℕ → Cover → List Task
numbered i [] = []
numbered i (c ∷ C) = (i, c) ∷ numbered i C

-- what the pieces of a stack will come to
abbrev pub pending : Cover → List Task → Cover
pending D [] = []
pending D (t ∷ S) = rest t.1 (drop t.0 D) ++ pending D S

-- piece k of A outside B, whether empty or not: the common values before part k, A without B in it, A after it
abbrev pub piece : ℕ → Cube → Cube → Cube
piece k [] B = []
piece k (a ∷ A) [] = a ∷ A
piece zero (a ∷ A) (b ∷ B) = minus a b ∷ A
piece (suc k) (a ∷ A) (b ∷ B) = bit_and a b ∷ piece k A B

-- the piece of part k, if it is one
abbrev pub piece_at : ℕ → Cube → Cube → Cover
piece_at k A B = cond (some (minus (slice_index A k) (slice_index B k))) (piece k A B ∷ []) []

-- How much work a stack is: no piece is cut into more than w, and each at most n times.
abbrev pub weight : ℕ → ℕ → List Task → ℕ
weight w n [] = 0
weight w n (t ∷ S) = (w + 1) ^ (n - t.0) + weight w n S

-- Each piece of a stack stands where it may: below it are at most q for each row that it was cut by or passed.
abbrev pub Placed : ℕ → ℕ → List Task → Type 0
Placed q n [] = Unit {0}
Placed q n (t ∷ S) = (length S ≤ q * t.0) × (t.0 ≤ n) × Placed q n S
