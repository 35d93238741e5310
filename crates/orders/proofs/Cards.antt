-- The first card, and the lightest part, by the law of an order.
use Rattle.std.proofs.Common.{◌≡◌, ℕ, ◌<◌, ◌≤◌, Bool, false, not, List, length, get_or, take, ap, ◌∙◌, arith}
use Rattle.std.proofs.lemmas.List.{length-take, get_or-take}
use Rattle.table.specs.declared.card.Card.{Card}
use Rattle.table.specs.Cards.{blank}
use Rattle.orders.specs.Rules.{Rule, Ordered, light_rule}
use Rattle.orders.specs.Searches.{precedes, first_of, IsFirstOf, lightest, IsLightest}
use Rattle.orders.proofs.Bests.{best-first, best_alike}
use Rattle.orders.proofs.Rules.{light_ordered}

pub first_of_lem : (test : Card → Bool) (B : Rule) → Ordered B → (cs : List Card) (n : ℕ) → IsFirstOf test B cs n (first_of test B cs n)
first_of_lem test B law cs n = best-first B law (λ i. (get_or cs i blank).weight) (λ i. (get_or cs i blank).place) (λ i. test (get_or cs i blank)) n

-- only the first n cards matter
pub first_of_alike : (test : Card → Bool) (B : Rule) (cs ds : List Card) (n : ℕ) → ((i : ℕ) → i < n → get_or cs i blank ≡ get_or ds i blank)
    → first_of test B cs n ≡ first_of test B ds n
first_of_alike test B cs ds n h =
    best_alike (λ i. test (get_or cs i blank)) (λ i. test (get_or ds i blank)) (λ i j. precedes B (get_or cs i blank) (get_or cs j blank))
    (λ i j. precedes B (get_or ds i blank) (get_or ds j blank)) n (λ i l. ap test (h i l)) (λ i j k l. rw (h i k, h j l))

-- so the first of n cards may be sought in these alone
pub first_of-front : (test : Card → Bool) (B : Rule) (cs : List Card) (n : ℕ) → n ≤ length cs → first_of test B (take n cs) (length (take n cs)) ≡ first_of test B cs n
first_of-front test B cs n h =
    let e : length (take n cs) ≡ n = simp length-take (omega arith) in
    ap (first_of test B (take n cs)) e ∙ first_of_alike test B (take n cs) cs n (λ i l. get_or-take n cs i blank l)

pub lightest_first : (p : ℕ) (w : ℕ → ℕ) (t : List Bool) → IsLightest p w t (lightest p w t)
lightest_first p w t = best-first light_rule light_ordered w (λ k. k) (λ k. not (get_or t k false)) p

-- only the weights of the p parts matter, and their marks
pub lightest_alike : (p : ℕ) (w v : ℕ → ℕ) (t u : List Bool) → ((k : ℕ) → k < p → w k ≡ v k) → ((k : ℕ) → k < p → get_or t k false ≡ get_or u k false)
    → lightest p w t ≡ lightest p v u
lightest_alike p w v t u f h =
    best_alike (λ k. not (get_or t k false)) (λ k. not (get_or u k false)) (λ i j. light_rule (w i) i (w j) j) (λ i j. light_rule (v i) i (v j) j) p
    (λ k l. ap not (h k l)) (λ i j k l. rw (f i k, f j l))
