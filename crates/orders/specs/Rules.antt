-- What an order of cubes says: from the weight and the starting place of one cube, and those of another, whether the first comes before the second.
use Rattle.std.specs.Prelude.{◌≡◌, ℕ, Bool, true, cond, not, ◌&&◌, ◌||◌, ◌≢◌, Some, None, Option, ◌==◌, nat_lt}
use Rattle.orders.specs.declared.Either.{Either}
use Rattle.orders.specs.declared.Either.TheVariants.{Left, Right}
use Rattle.orders.specs.declared.Direction.{Direction}
use Rattle.orders.specs.declared.Direction.TheVariants.{Along, Against}
use Rattle.orders.specs.declared.Chosen.{Chosen}
use Rattle.orders.specs.declared.Chosen.TheVariants.{Place, PlaceReversed, Light, LightReversed}

abbrev pub Rule : Type 0
Rule = ℕ → ℕ → ℕ → ℕ → Bool

-- the law of an order; of cubes with one place it says nothing
pub record Ordered (B : Rule) : Type 0 where
  -- of two with different places exactly one comes before the other
  pub one : (w p v q : ℕ) → p ≢ q → B w p v q ≡ not (B v q w p)
  -- before carries over from pair to pair
  pub carries : (w p v q u r : ℕ) → B w p v q ≡ true → B v q u r ≡ true → B w p u r ≡ true

-- the lower place first
abbrev pub place_rule : Rule
place_rule w p v q = nat_lt p q

-- the lower weight first, then the lower place
abbrev pub light_rule : Rule
light_rule w p v q = nat_lt w v || (w == v && nat_lt p q)

-- first and second exchanged
abbrev pub reversed : Rule → Rule
reversed B w p v q = B v q w p

-- a rule taken along or against
abbrev pub directed : Direction → Rule → Rule
directed Along B = B
directed Against B = reversed B

-- the rule of one of two orders
abbrev pub either_rule : {A B : Type 0} → (A → Rule) → (B → Rule) → Either A B → Rule
either_rule f g (Left a) = f a
either_rule f g (Right b) = g b

-- the orders that a byte names
abbrev pub chosen_rule : Chosen → Rule
chosen_rule Place = place_rule
chosen_rule PlaceReversed = reversed place_rule
chosen_rule Light = light_rule
chosen_rule LightReversed = reversed light_rule

abbrev pub order_of : ℕ → Option Chosen
order_of b =
    cond (b == 0) (Some Place)
    (cond (b == 1) (Some PlaceReversed)
    (cond (b == 2) (Some Light)
    (cond (b == 3) (Some LightReversed)
    None)))
