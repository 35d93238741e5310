-- A cube is a list of sets, one to a part; a vertex is a list of values, one to a part; a cover is a list of cubes.
use Rattle.std.specs.Prelude.{◌≡◌, ℕ, Bool, true, false, cond, ◌&&◌, ◌||◌, List, [], ◌∷◌, ◌++◌, map, length, ◌==◌, bit_and}
use Rattle.std.specs.List.{flat_map, AllByRecursion}
use Rattle.parts.specs.Sets.{has, minus, some}

abbrev pub Cube : Type 0
Cube = List ℕ

abbrev pub Vertex : Type 0
Vertex = List ℕ

abbrev pub Cover : Type 0
Cover = List Cube

-- each cube of the cover has p parts
abbrev pub Wide : ℕ → Cover → Type 0
Wide p C = AllByRecursion (λ (c : Cube). length c ≡ p) C

-- no part of the cube is empty
abbrev pub live : Cube → Bool
live [] = true
live (a ∷ A) = some a && live A

-- the cube holds the vertex: each value is a member of its part's set
abbrev pub holds : Cube → Vertex → Bool
holds [] v = true
holds (a ∷ A) [] = false
holds (a ∷ A) (x ∷ v) = has a x && holds A v

-- some cube of the cover holds the vertex
abbrev pub held : Cover → Vertex → Bool
held [] v = false
held (c ∷ C) v = holds c v || held C v

-- the cubes have a value in common in each part
abbrev pub meets : Cube → Cube → Bool
meets [] B = true
meets (a ∷ A) [] = true
meets (a ∷ A) (b ∷ B) = some (bit_and a b) && meets A B

-- each part of the second lies in that of the first
abbrev pub covers : Cube → Cube → Bool
covers [] B = true
covers (a ∷ A) [] = true
covers (a ∷ A) (b ∷ B) = minus b a == 0 && covers A B

-- the cubes have the same parts
abbrev pub same : Cube → Cube → Bool
same [] [] = true
same [] (b ∷ B) = false
same (a ∷ A) [] = false
same (a ∷ A) (b ∷ B) = a == b && same A B

-- the cube with s for its first part, unless s is empty
abbrev pub led : ℕ → Cube → Cover
led s A = cond (some s) ((s ∷ A) ∷ []) []

-- the pieces of a cube outside another: for k rising, the common values before part k, the rest of part k, all after it; none with part k empty
abbrev pub pieces : Cube → Cube → Cover
pieces [] B = []
pieces (a ∷ A) [] = []
pieces (a ∷ A) (b ∷ B) = led (minus a b) A ++ map (λ p. bit_and a b ∷ p) (pieces A B)

-- A cut by B: A alone where they do not meet
abbrev pub cut : Cube → Cube → Cover
cut A B = cond (meets A B) (pieces A B) (A ∷ [])

-- what is left of a cube when those of a cover are cut out of it, one after the other
abbrev pub rest : Cube → Cover → Cover
rest c [] = c ∷ []
rest c (d ∷ D) = flat_map (λ p. rest p D) (cut c d)
