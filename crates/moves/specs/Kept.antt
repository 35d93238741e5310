-- What is left of a cube beside others, as one cube.
use Rattle.std.specs.Prelude.{◌≡◌, ℕ, ◌<◌, Bool, true, false, cond, not, ◌&&◌, ◌↔◌, [], ◌∷◌, length, replicate, bit_or, slice_index}
use Rattle.parts.specs.Sets.{has}
use Rattle.cubes.specs.Cubes.{Cube, Vertex, Cover, live, holds, held, rest}

-- the joined values, part by part
abbrev pub join : Cube → Cube → Cube
join [] B = []
join (a ∷ A) [] = a ∷ A
join (a ∷ A) (b ∷ B) = bit_or a b ∷ join A B

-- the live cubes of the cover joined into one of n parts: all of them empty where there is none
abbrev pub span : ℕ → Cover → Cube
span n [] = replicate n 0
span n (c ∷ C) = cond (live c) (join (span n C) c) (span n C)

-- the vertex is f's own: no cube of D holds it
abbrev pub own : Cube → Cover → Vertex → Bool
own f D v = holds f v && not (held D v)

-- what f is reduced to beside D
abbrev pub kept : Cube → Cover → Cube
kept f D = span (length f) (rest f D)

-- the cube, unless a part is empty
abbrev pub alive : Cube → Cover
alive c = cond (live c) (c ∷ []) []

-- what stands in f's place: a cube or none
abbrev pub reduced : Cube → Cover → Cover
reduced f D = alive (kept f D)

abbrev pub none_left : Cover → Bool
none_left [] = true
none_left (c ∷ C) = false

-- part k of g has the values that f's own vertices have there
abbrev pub Exact : Cube → Cover → Cube → Type 0
Exact f D g =
    (length g ≡ length f)
    × ((k x : ℕ) → k < length f
    → (has (slice_index g k) x ≡ true) ↔ ((v : Vertex) × (length v ≡ length f) × (own f D v ≡ true) × (slice_index v k ≡ x)))
