-- The members of the sets that the bit operations make.
use Rattle.std.proofs.Common.{◌≡◌, ℕ, zero, suc, ◌+◌, ◌-◌, ◌/◌, ◌%◌, ◌^◌, ◌<◌, ◌≤◌, min, max, Bool, true, false, not, ◌&&◌, ◌||◌, eqb, ltb, ◌≢◌, refl, sym, ap, ◌∙◌, pow-suc, add-one, arith}
use Prim.Native.Nat.compare
use lib.Arith.{bin_ind}
use lib.Bits.{bit_and, bit_or, and_step, or_step, and_le_l}
use lib.Count.{ones, ones_step}
use Rattle.std.proofs.lemmas.Nat.{pow_pos, mod-pow-add, field_of}
use Rattle.std.proofs.lemmas.Bool.Decides.{nat_tests}
use Rattle.std.proofs.lemmas.Bool.{eq-eqb, eqb-true}
use Rattle.parts.specs.Sets.{has, minus, members}

-- ---- a set's first value, and the others

and-half : (a b : ℕ) → bit_and a b / 2 ≡ bit_and (a / 2) (b / 2)
and-half a b = omega (arith, and_step a b)

and_odd : (a b : ℕ) → bit_and a b % 2 ≡ min (a % 2) (b % 2)
and_odd a b = omega (arith, and_step a b)

or-half : (a b : ℕ) → bit_or a b / 2 ≡ bit_or (a / 2) (b / 2)
or-half a b = omega (arith, or_step a b)

or_odd : (a b : ℕ) → bit_or a b % 2 ≡ max (a % 2) (b % 2)
or_odd a b = omega (arith, or_step a b)

minus-half : (a b : ℕ) → minus a b / 2 ≡ minus (a / 2) (b / 2)
minus-half a b = omega (arith, and_step a b, and_le_l (a / 2) (b / 2))

minus_odd : (a b : ℕ) → minus a b % 2 ≡ a % 2 - b % 2
minus_odd a b = omega (arith, and_step a b, and_le_l (a / 2) (b / 2))

-- ---- members

pub has-and : (a b v : ℕ) → has (bit_and a b) v ≡ (has a v && has b v)
has-and a b zero = rw (and_odd a b) (grind (arith, nat_tests))
has-and a b (suc v) = rw (and-half a b) (has-and (a / 2) (b / 2) v)

pub has-or : (a b v : ℕ) → has (bit_or a b) v ≡ (has a v || has b v)
has-or a b zero = rw (or_odd a b) (grind (arith, nat_tests))
has-or a b (suc v) = rw (or-half a b) (has-or (a / 2) (b / 2) v)

pub has-minus : (a b v : ℕ) → has (minus a b) v ≡ (has a v && not (has b v))
has-minus a b zero = rw (minus_odd a b) (grind (arith, nat_tests))
has-minus a b (suc v) = rw (minus-half a b) (has-minus (a / 2) (b / 2) v)

pub has-none : (v : ℕ) → has 0 v ≡ false
has-none zero = refl
has-none (suc v) = has-none v

-- the set of one value
pub has_only : (w v : ℕ) → has (2 ^ w) v ≡ eqb v w
has_only zero zero = refl
has_only zero (suc v) = grind (arith, nat_tests, has-none v)
has_only (suc w) zero = let e : 2 ^ suc w % 2 ≡ 0 = omega (arith, pow-suc 2 w) in rw e (grind (arith, nat_tests))
has_only (suc w) (suc v) =
    let e : 2 ^ suc w / 2 ≡ 2 ^ w = omega (arith, pow-suc 2 w) in
    rw (e, compare.suc-suc v w) (has_only w v)

pub has_one : (v : ℕ) → has (2 ^ v) v ≡ true
has_one v = has_only v v ∙ eq-eqb v v refl

-- ---- sets with the same members are equal

pub same : (a b : ℕ) → ((v : ℕ) → has a v ≡ has b v) → a ≡ b
same a =
    bin_ind (λ n. (b : ℕ) → ((v : ℕ) → has n v ≡ has b v) → n ≡ b) none
    (λ n ih b h. omega (arith, ih (b / 2) (λ v. h (suc v)), odd n b (h 0))) a
  where
    odd : (m n : ℕ) → eqb (m % 2) 1 ≡ eqb (n % 2) 1 → m % 2 ≡ n % 2
    odd m n e = grind (arith, nat_tests)

    none : (b : ℕ) → ((v : ℕ) → has 0 v ≡ has b v) → 0 ≡ b
    none = bin_ind (λ b. ((v : ℕ) → has 0 v ≡ has b v) → 0 ≡ b) (λ _. refl)
        (λ b ih h. omega (arith, ih (λ v. h (suc v)), odd 0 b (h 0)))

-- ---- a set that is not empty has a member

pub member : (s : ℕ) → s ≢ 0 → (v : ℕ) × (has s v ≡ true)
member =
    bin_ind (λ s. s ≢ 0 → (v : ℕ) × (has s v ≡ true)) (λ h. absurd (h refl)) step
  where
    step : (s : ℕ) → (s / 2 ≢ 0 → (v : ℕ) × (has (s / 2) v ≡ true)) → s ≢ 0 → (v : ℕ) × (has s v ≡ true)
    step s ih h = pick (eqb (s % 2) 1) refl
      where
        pick : (t : Bool) → eqb (s % 2) 1 ≡ t → (v : ℕ) × (has s v ≡ true)
        pick true e = (0, e)
        pick false e = let (v, k) = ih (grind (arith, nat_tests)) in (suc v, k)

-- ---- sets below 2 ^ k: no value at or past k is a member

pub has_past : (k s v : ℕ) → s < 2 ^ k → k ≤ v → has s v ≡ false
has_past zero s v h l = let e : s ≡ 0 = omega arith in rw e (has-none v)
has_past (suc k) s zero h l = absurd (omega arith)
has_past (suc k) s (suc v) h l = has_past k (s / 2) v (omega (arith, pow-suc 2 k)) (omega arith)

-- what a remainder keeps of a set
pub has_low : (k s v : ℕ) → has (s % 2 ^ k) v ≡ (ltb v k && has s v)
has_low zero s v = let e : s % 2 ^ 0 ≡ 0 = omega arith in rw e (grind (arith, nat_tests, has-none v))
has_low (suc k) s zero =
    let e : s % 2 ^ suc k % 2 ≡ s % 2 = rw (← add-one k) (omega (arith, mod-pow-add s k 1)) in
    rw e (grind (arith, nat_tests))
has_low (suc k) s (suc v) =
    let e : s % 2 ^ suc k / 2 ≡ s / 2 % 2 ^ k = rw (← add-one k) (field_of s k 1) in
    rw (e, compare.suc-suc (suc v) k) (has_low k (s / 2) v)

-- the set of all values below k
pub has_all : (k v : ℕ) → has (2 ^ k - 1) v ≡ ltb v k
has_all zero v = grind (arith, nat_tests, has-none v)
has_all (suc k) zero =
    let e : (2 ^ suc k - 1) % 2 ≡ 1 = omega (arith, pow-suc 2 k, pow_pos k) in
    rw e (grind (arith, nat_tests))
has_all (suc k) (suc v) =
    let e : (2 ^ suc k - 1) / 2 ≡ 2 ^ k - 1 = omega (arith, pow-suc 2 k) in
    rw (e, compare.suc-suc (suc v) k) (has_all k v)

-- ---- how many members

-- the first value, and the others
members_step : (s n : ℕ) → members s (suc n) ≡ s % 2 + members (s / 2) n
members_step s zero = grind (arith, nat_tests)
members_step s (suc n) = omega (arith, members_step s n)

pub members_ones : (k s : ℕ) → s < 2 ^ k → members s k ≡ ones s
unfolding ones
members_ones zero s h = let e : s ≡ 0 = omega arith in rw e
members_ones (suc k) s h = omega (arith, members_step s k, ones_step s, members_ones k (s / 2) (omega (arith, pow-suc 2 k)))

-- ---- the values of a set, gathered into a word

pub gather_more : (s v : ℕ) → has s v ≡ true → bit_or (s % 2 ^ v) (2 ^ v) ≡ s % 2 ^ (v + 1)
gather_more s v h = same _ _ (λ u. has-or (s % 2 ^ v) (2 ^ v) u ∙ rw (has_low v s u, has_only v u) (step u (ltb u v) (eqb u v) refl refl) ∙ sym (has_low (v + 1) s u))
  where
    step : (u : ℕ) (a b : Bool) → ltb u v ≡ a → eqb u v ≡ b → ((ltb u v && has s u) || eqb u v) ≡ (ltb u (v + 1) && has s u)
    step u a true e f = let q : u ≡ v = eqb-true u v f in let t : has s u ≡ true = ap (has s) q ∙ h in grind (arith, nat_tests)
    step u a false e f = grind (arith, nat_tests)

pub gather_same : (s v : ℕ) → has s v ≡ false → s % 2 ^ v ≡ s % 2 ^ (v + 1)
gather_same s v h = same _ _ (λ u. has_low v s u ∙ step u (eqb u v) refl ∙ sym (has_low (v + 1) s u))
  where
    step : (u : ℕ) (b : Bool) → eqb u v ≡ b → (ltb u v && has s u) ≡ (ltb u (v + 1) && has s u)
    step u true f = let q : u ≡ v = eqb-true u v f in let t : has s u ≡ false = ap (has s) q ∙ h in grind (arith, nat_tests)
    step u false f = grind (arith, nat_tests)
