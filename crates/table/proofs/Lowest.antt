-- The zeros at the end of a set's number say which value is its lowest.
use Rattle.std.proofs.Common.{◌≡◌, ℕ, zero, suc, ◌/◌, ◌%◌, ◌^◌, ◌<◌, true, false, refl, pow-suc, arith}
use lib.Count.{count_trailing_zeros, under}
use Rattle.std.proofs.lemmas.Bool.Decides.{nat_tests}
use Rattle.parts.specs.Sets.{has, some}
use Rattle.table.specs.Filling.{Lowest}

-- of a set whose lowest digit is d, and whose others have t for their lowest value
lowest_under : (s d t : ℕ) → s % 2 ≡ d → (d ≡ 0 → Lowest (s / 2) t) → Lowest s (under d t)
lowest_under s zero t e h =
    let l = h refl in
    record { member = l.member; none_below = below }
  where
    below : (w : ℕ) → w < suc t → has s w ≡ false
    below zero k = grind (arith, nat_tests)
    below (suc w) k = (h refl).none_below w (omega arith)
lowest_under s (suc d) t e h = record { member = grind (arith, nat_tests); none_below = λ w k. absurd (omega arith) }

pub lowest_is : (k s : ℕ) → s < 2 ^ k → some s ≡ true → Lowest s (count_trailing_zeros k s)
unfolding count_trailing_zeros
lowest_is zero s h e = absurd (grind (arith, nat_tests))
lowest_is (suc k) s h e =
    lowest_under s (s % 2) (count_trailing_zeros k (s / 2)) refl
    (λ z. lowest_is k (s / 2) (omega (arith, pow-suc 2 k)) (grind (arith, nat_tests)))
