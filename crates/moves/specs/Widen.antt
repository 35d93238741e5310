-- A cube that is widened in one part, as far as a cover of forbidden cubes lets it.
use Rattle.std.specs.Prelude.{◌≡◌, ℕ, ◌^◌, Bool, true, false, cond, ◌||◌, [], ◌∷◌, bit_or, slice_index, slice_set}
use Rattle.parts.specs.Sets.{has, minus}
use Rattle.cubes.specs.Cubes.{Cube, Cover, meets}

-- the cube meets some cube of the cover
abbrev pub touches : Cube → Cover → Bool
touches f [] = false
touches f (r ∷ R) = meets f r || touches f R

-- the cubes meet in each part but k
abbrev pub beside : ℕ → Cube → Cube → Bool
beside k f r = meets (slice_set f k 1) (slice_set r k 1)

-- the values of part k that some cube of the cover has which meets f in each other part
abbrev pub blocked : ℕ → Cube → Cover → ℕ
blocked k f [] = 0
blocked k f (r ∷ R) = bit_or (cond (beside k f r) (slice_index r k) 0) (blocked k f R)

-- f with all of u in part k that is not blocked
abbrev pub widened : ℕ → ℕ → Cube → Cover → Cube
widened k u f R = slice_set f k (minus u (blocked k f R))

-- with any other value of U in part k, the cube meets some cube of R
abbrev pub Full : ℕ → Cube → Cube → Cover → Type 0
Full k U g R = (x : ℕ) → has (slice_index U k) x ≡ true → has (slice_index g k) x ≡ false → touches (slice_set g k (bit_or (slice_index g k) (2 ^ x))) R ≡ true
