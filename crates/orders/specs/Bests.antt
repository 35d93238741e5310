-- The best of the numbers below n that are free, and what it is.
use Rattle.std.specs.Prelude.{◌≡◌, ℕ, zero, suc, ◌<◌, Bool, true, false, cond, ◌≢◌, Some, None, Option}

-- i against the best so far
abbrev pub better : (ℕ → ℕ → Bool) → ℕ → Option ℕ → Option ℕ
better before i None = Some i
better before i (Some b) = cond (before i b) (Some i) (Some b)

-- the best so far, with i where it is free
abbrev pub against : Bool → (ℕ → ℕ → Bool) → ℕ → Option ℕ → Option ℕ
against true before i o = better before i o
against false before i o = o

abbrev pub best : (ℕ → Bool) → (ℕ → ℕ → Bool) → ℕ → Option ℕ
best free before zero = None
best free before (suc n) = against (free n) before n (best free before n)

-- none is free, or the one found is
abbrev pub Found : (ℕ → Bool) → ℕ → Option ℕ → Type 0
Found free n None = (k : ℕ) → k < n → free k ≡ false
Found free n (Some b) = (b < n) × (free b ≡ true)

-- the one found comes before every other that is free and has another place
abbrev pub First : (ℕ → Bool) → (ℕ → ℕ → Bool) → (ℕ → ℕ) → ℕ → Option ℕ → Type 0
First free before at n None = Unit {0}
First free before at n (Some b) = (k : ℕ) → k < n → free k ≡ true → at k ≢ at b → before b k ≡ true

pub record IsFirst (free : ℕ → Bool) (before : ℕ → ℕ → Bool) (at : ℕ → ℕ) (n : ℕ) (r : Option ℕ) : Type 0 where
  pub found : Found free n r
  pub first : First free before at n r
