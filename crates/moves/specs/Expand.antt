-- Expand: each cube as large as the off list lets it become, and the others that it covers removed.
use Rattle.std.specs.Prelude.{ℕ, zero, suc, ◌+◌, Bool, true, false, cond, not, ◌&&◌, List, [], ◌∷◌, ◌++◌, map, length, replicate, Some, None, filter, Option, ◌==◌, bit_and, slice_index, slice_set}
use Rattle.std.specs.List.{range_with_len}
use Rattle.parts.specs.Sets.{minus, some}
use Rattle.cubes.specs.Cubes.{Cube, Cover, covers}
use Rattle.orders.specs.Searches.{lightest}
use Rattle.moves.specs.Items.{Item, cubes_of, placed, Act}
use Rattle.moves.specs.Widen.{blocked, widened}

-- each part widened against the cube as it is, all together
abbrev pub over : Cube → Cube → Cover → Cube
over U f R = map (λ k. minus (slice_index U k) (blocked k f R)) (range_with_len 0 (length f))

-- in how many parts the cubes share no value
abbrev pub misses : Cube → Cube → ℕ
misses [] B = 0
misses (a ∷ A) [] = 0
misses (a ∷ A) (b ∷ B) = cond (some (bit_and a b)) 0 1 + misses A B

-- how many cubes of C the cube o covers whose part k lies within f's
abbrev pub part_weight : Cube → Cube → Cover → ℕ → ℕ
part_weight o f [] k = 0
part_weight o f (c ∷ C) k = cond (covers o c && minus (slice_index c k) (slice_index f k) == 0) 1 0 + part_weight o f C k

-- the marks of the parts, and the cube
abbrev pub Growth : Type 0
Growth = List Bool × Cube

abbrev pub widen_at : Cube → Cover → Growth → Option ℕ → Growth
widen_at U R s None = s
widen_at U R s (Some k) = (slice_set s.0 k true, widened k (slice_index U k) s.1 R)

-- n parts are widened, one after the other
abbrev pub growing : ℕ → ℕ → (ℕ → ℕ) → Cube → Cover → Growth → Growth
growing zero p w U R s = s
growing (suc n) p w U R s = growing n p w U R (widen_at U R s (lightest p w s.0))

-- f grown beside the other cubes C
unfoldable pub grown : Cube → Cover → Cube → Cover → Cube
grown U R f C = let p : ℕ = length f in (growing p p (part_weight (over U f R) f C) U R (replicate p false, f)).1

-- the items that g does not cover
unfoldable pub spared : Cube → List Item → List Item
spared g L = filter (λ i. not (covers g i.cube)) L

abbrev pub put_grown : List Item → Item → List Item → Cube → List Item
put_grown X f Y g = spared g X ++ placed f g ∷ spared g Y

abbrev pub expanding : Cube → Cover → Act
expanding U R X f Y = put_grown X f Y (grown U R f.cube (cubes_of X ++ cubes_of Y))
