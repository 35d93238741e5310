-- The one part in which cubes share no value.
use Rattle.std.specs.Prelude.{◌≡◌, ℕ, suc, ◌<◌, Bool, false, cond, not, ◌&&◌, [], ◌∷◌, length, Some, None, Option, ◌==◌, bit_and, slice_index}
use Rattle.parts.specs.Sets.{some}
use Rattle.cubes.specs.Cubes.{Cube, meets}
use Rattle.moves.specs.Widen.{beside}
use Rattle.moves.specs.Expand.{misses}

-- its number, counted from k; none where there is no such part, or more than one
abbrev pub only_missed : ℕ → Cube → Cube → Option ℕ
only_missed k [] B = None
only_missed k (a ∷ A) [] = None
only_missed k (a ∷ A) (b ∷ B) = cond (some (bit_and a b)) (only_missed (suc k) A B) (cond (misses A B == 0) (Some k) None)

-- the number is k
abbrev pub is_at : ℕ → Option ℕ → Bool
is_at k None = false
is_at k (Some j) = j == k

-- what the answer o says of two cubes
pub record Once (f r : Cube) (o : Option ℕ) : Type 0 where
  -- a part that is found is one of theirs
  pub within : (k : ℕ) → o ≡ Some k → k < length f
  -- part k is found exactly if they share no value in it, and that is so in one part alone
  pub alone : (k : ℕ) → k < length f → is_at k o ≡ (not (some (bit_and (slice_index f k) (slice_index r k))) && misses f r == 1)
  -- of cubes that do not meet: exactly if they meet in each other part
  pub blocks : meets f r ≡ false → (k : ℕ) → k < length f → beside k f r ≡ is_at k o
