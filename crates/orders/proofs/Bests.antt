-- The best so far against the next finds the first.
use Rattle.std.proofs.Common.{◌≡◌, ℕ, zero, suc, ◌<◌, Bool, true, false, cond, not, Some, None, Option, sym, refl, ap, ◌∙◌, ⊎_elim, arith}
use Rattle.std.proofs.lemmas.Bool.{cond_both, cases_eq, cases_Bool, both_ways}
use Rattle.orders.specs.Rules.{Rule, Ordered}
use Rattle.orders.specs.Bests.{against, best, Found, First, IsFirst}

-- ---- one is found where one is free

pub best-found : (free : ℕ → Bool) (before : ℕ → ℕ → Bool) (n : ℕ) → Found free n (best free before n)
best-found free before zero = λ k l. absurd (omega arith)
best-found free before (suc n) = by (free n) refl (best free before n) (best-found free before n)
  where
    by : (t : Bool) → free n ≡ t → (o : Option ℕ) → Found free n o → Found free (suc n) (against t before n o)
    by true e None h = (omega arith, e)
    by true e (Some b) h = cond_both (before n b) (Some n) (Some b) (Found free (suc n)) (λ _. (omega arith, e)) (λ _. (omega arith, h.1))
    by false e None h = λ k l. ⊎_elim (λ q. ap free q ∙ e) (λ q. h k (omega arith)) (cases_eq k n)
    by false e (Some b) h = (omega arith, h.1)

-- ---- what comes before the one found, it comes before as well; for this before need only carry over

abbrev Level : (ℕ → Bool) → (ℕ → ℕ → Bool) → ℕ → Option ℕ → Type 0
Level free before n None = Unit {0}
Level free before n (Some b) = (k : ℕ) → k < n → free k ≡ true → before k b ≡ true → before b k ≡ true

module _ (free : ℕ → Bool) (before : ℕ → ℕ → Bool)
    (carries : (i j k : ℕ) → before i j ≡ true → before j k ≡ true → before i k ≡ true) where
  compared : (n b : ℕ) (t : Bool) → before n b ≡ t → Level free before n (Some b) → Level free before (suc n) (cond t (Some n) (Some b))
  compared n b true e h = λ k l f a.
      ⊎_elim (λ q. rw q (rw q at a)) (λ q. carries n b k e (h k (omega arith) f (carries k n b a e))) (cases_eq k n)
  compared n b false e h = λ k l f a.
      ⊎_elim (λ q. absurd (both_ways _ e (rw q at a))) (λ q. h k (omega arith) f a) (cases_eq k n)

  level_more : (n : ℕ) (t : Bool) (o : Option ℕ) → free n ≡ t → Found free n o → Level free before n o → Level free before (suc n) (against t before n o)
  level_more n true None e g h = λ k l f a.
      ⊎_elim (λ q. rw q (rw q at a)) (λ q. absurd (both_ways _ (g k (omega arith)) f)) (cases_eq k n)
  level_more n true (Some b) e g h = compared n b (before n b) refl h
  level_more n false None e g h = tt
  level_more n false (Some b) e g h = λ k l f a.
      ⊎_elim (λ q. absurd (both_ways _ (ap free q ∙ e) f)) (λ q. h k (omega arith) f a) (cases_eq k n)

  level : (n : ℕ) → Level free before n (best free before n)
  level zero = tt
  level (suc n) = level_more n (free n) (best free before n) refl (best-found free before n) (level n)

-- ---- so, by the law of an order, it comes before every other that has another place

module _ (B : Rule) (law : Ordered B) (w : ℕ → ℕ) (at : ℕ → ℕ) (free : ℕ → Bool) where
  abbrev before : ℕ → ℕ → Bool
  before i j = B (w i) (at i) (w j) (at j)

  placed : (n : ℕ) (o : Option ℕ) → Level free before n o → First free before at n o
  placed n None h = tt
  placed n (Some b) h = λ k l f d.
      ⊎_elim (λ e. h k l f e) (λ e. law.one _ _ _ _ (λ s. d (sym s)) ∙ ap not e) (cases_Bool (before k b))

  pub best-first : (n : ℕ) → IsFirst free before at n (best free before n)
  best-first n =
      record { found = best-found free before n; first = placed n (best free before n) (level free before (λ i j k. law.carries _ _ _ _ _ _) n) }

-- ---- only what is asked below n matters

pub best_alike : (free free' : ℕ → Bool) (before before' : ℕ → ℕ → Bool) (n : ℕ) → ((i : ℕ) → i < n → free i ≡ free' i)
    → ((i j : ℕ) → i < n → j < n → before i j ≡ before' i j) → best free before n ≡ best free' before' n
best_alike free free' before before' zero f b = refl
best_alike free free' before before' (suc n) f b =
    rw (best_alike free free' before before' n (λ i l. f i (omega arith)) (λ i j k l. b i j (omega arith) (omega arith)), f n (omega arith))
    (by (free' n) (best free' before' n) (best-found free' before' n))
  where
    by : (t : Bool) (o : Option ℕ) → Found free' n o → against t before n o ≡ against t before' n o
    by true None g = refl
    by true (Some i) g = ap (λ t. cond t (Some n) (Some i)) (b n i (omega arith) (omega (arith, g.0)))
    by false o g = refl
