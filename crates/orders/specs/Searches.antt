-- The first card under a rule, and the lightest part.
use Rattle.std.specs.Prelude.{ℕ, Bool, false, not, ◌&&◌, List, get_or, Option, slice_index_or}
use Rattle.table.specs.declared.card.Card.{Card}
use Rattle.table.specs.Cards.{blank}
use Rattle.orders.specs.Rules.{Rule, light_rule}
use Rattle.orders.specs.Bests.{best, IsFirst}

-- the first card comes before the second
abbrev pub precedes : Rule → Card → Card → Bool
precedes B c d = B c.weight c.place d.weight d.place

-- not taken
abbrev pub waits : Card → Bool
waits c = not c.taken

-- neither taken nor tried
abbrev pub untried : Card → Bool
untried c = not c.taken && not c.tried

-- where the first card stands of the first n that pass the test
abbrev pub first_of : (Card → Bool) → Rule → List Card → ℕ → Option ℕ
first_of test B cs n = best (λ i. test (slice_index_or cs i blank)) (λ i j. precedes B (slice_index_or cs i blank) (slice_index_or cs j blank)) n

-- none of the first n passes the test; or the one found does, and comes before every other that passes and has another place
abbrev pub IsFirstOf : (Card → Bool) → Rule → List Card → ℕ → Option ℕ → Type 0
IsFirstOf test B cs n r =
    IsFirst (λ i. test (slice_index_or cs i blank)) (λ i j. precedes B (slice_index_or cs i blank) (slice_index_or cs j blank)) (λ i. (get_or cs i blank).place) n r

-- the lightest of p parts that is not marked, the lower number first
abbrev pub lightest : ℕ → (ℕ → ℕ) → List Bool → Option ℕ
lightest p w t = best (λ k. not (slice_index_or t k false)) (λ i j. light_rule (w i) i (w j) j) p

-- all of the p parts are marked; or the one found is not, and is lighter than every other that is not, or as light with a lower number
abbrev pub IsLightest : ℕ → (ℕ → ℕ) → List Bool → Option ℕ → Type 0
IsLightest p w t r = IsFirst (λ k. not (slice_index_or t k false)) (λ i j. light_rule (w i) i (w j) j) (λ k. k) p r
