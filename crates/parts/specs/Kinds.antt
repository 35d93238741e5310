-- What a kind of part shows of each method, against the sets of values: the set as a number, and the same by its members.
use Rattle.std.specs.Prelude.{◌≡◌, ℕ, ◌%◌, ◌^◌, Bool, true, false, not, ◌&&◌, ◌||◌, ◌==◌, bit_and, bit_or, count_ones, nat_lt}
use Rattle.parts.specs.Sets.{has, minus, members}

-- r is made from a word: the value v is in it where bit v of the word is set, v below the most
pub record Made (most word r : ℕ) : Type 0 where
  pub value : r ≡ word % 2 ^ most
  pub values : (v : ℕ) → has r v ≡ (nat_lt v most && has word v)

-- r has the values that are in both
pub record Common (a b r : ℕ) : Type 0 where
  pub value : r ≡ bit_and a b
  pub values : (v : ℕ) → has r v ≡ (has a v && has b v)

-- r has the values that are in either
pub record Joined (a b r : ℕ) : Type 0 where
  pub value : r ≡ bit_or a b
  pub values : (v : ℕ) → has r v ≡ (has a v || has b v)

-- r has the values of a that b lacks
pub record Outside (a b r : ℕ) : Type 0 where
  pub value : r ≡ minus a b
  pub values : (v : ℕ) → has r v ≡ (has a v && not (has b v))

-- r says whether a has no value
pub record Emptied (a : ℕ) (r : Bool) : Type 0 where
  pub value : r ≡ (a == 0)
  pub none : r ≡ true → (v : ℕ) → has a v ≡ false
  pub some : r ≡ false → (v : ℕ) × (has a v ≡ true)

-- r is how many values a has
pub record Counted (most a r : ℕ) : Type 0 where
  pub value : r ≡ count_ones a
  pub values : r ≡ members a most
