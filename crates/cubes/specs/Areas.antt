-- Areas: lists in which cubes of p parts lie one after another.
use Rattle.std.specs.Prelude.{ℕ, zero, suc, ◌*◌, List, [], ◌∷◌, ◌++◌, length, take, drop}
use Rattle.std.specs.List.{flat_map}

-- the cube at place i
abbrev pub cube_at : {X : Type 0} → ℕ → ℕ → List X → List X
cube_at p i xs = take p (drop (i * p) xs)

-- the first n cubes
abbrev pub cubes : {X : Type 0} → ℕ → ℕ → List X → List (List X)
cubes p zero xs = []
cubes p (suc n) xs = take p xs ∷ cubes p n (drop p xs)

-- the area with c written at place i
abbrev pub put_at : {X : Type 0} → ℕ → ℕ → List X → List X → List X
put_at p i c xs = take (i * p) xs ++ (c ++ drop p (drop (i * p) xs))

-- the parts of cubes one after another
abbrev pub flat : {X : Type 0} → List (List X) → List X
flat C = flat_map (λ c. c) C

-- the area with ys written from its start
abbrev pub overlay : {X : Type 0} → List X → List X → List X
overlay ys xs = ys ++ drop (length ys) xs
