-- What the machine's operations on words make of sets.
use Rattle.std.proofs.Common.{◌≡◌, ℕ, zero, suc, ◌+◌, ◌-◌, ◌*◌, ◌/◌, ◌%◌, ◌^◌, ◌<◌, ◌≤◌, not, ◌&&◌, eqb, sym, ap, ◌∙◌, mul_comm, pow-suc, div-one, arith}
use native.Mathlib.Nat.{div-div-eq-div-mul}
use lib.Bits.{bit_and, and_mask}
use lib.Pow.{ones_lt, ones_split}
use Rattle.std.proofs.lemmas.Nat.{shr_high}
use Rattle.std.proofs.lemmas.Bool.Decides.{nat_tests}
use Rattle.parts.specs.Sets.{has, minus, whole}
use Rattle.parts.proofs.Bits.{has-and, has-minus, has-none, same}

-- `a & !b`
has_flip : (n a b v : ℕ) → a < 2 ^ n → b < 2 ^ n → (has a v && has (2 ^ n - 1 - b) v) ≡ (has a v && not (has b v))
has_flip zero a b v h k = let e : a ≡ 0 = omega arith in rw (e, has-none v)
has_flip (suc n) a b zero h k =
    let e : (2 ^ suc n - 1 - b) % 2 ≡ 1 - b % 2 = omega (arith, pow-suc 2 n) in
    rw e (grind (arith, nat_tests))
has_flip (suc n) a b (suc v) h k =
    let e : (2 ^ suc n - 1 - b) / 2 ≡ 2 ^ n - 1 - b / 2 = omega (arith, pow-suc 2 n) in
    rw e (has_flip n (a / 2) (b / 2) v (omega (arith, pow-suc 2 n)) (omega (arith, pow-suc 2 n)))

pub minus_word : (n a b : ℕ) → a < 2 ^ n → b < 2 ^ n → bit_and a (2 ^ n - 1 - b) ≡ minus a b
minus_word n a b h k = same _ _ (λ v. has-and a _ v ∙ has_flip n a b v h k ∙ sym (has-minus a b v))

-- `(s >> v) & 1 == 1`
pub has_word : (s v : ℕ) → eqb (bit_and (s / 2 ^ v) 1) 1 ≡ has s v
has_word s v = rw (and_mask (s / 2 ^ v) 1) (at s v)
  where
    at : (s v : ℕ) → eqb (s / 2 ^ v % 2) 1 ≡ has s v
    at s zero = ap (λ n. eqb (n % 2) 1) (div-one s)
    at s (suc v) =
        let e : s / 2 ^ suc v ≡ s / 2 / 2 ^ v = rw (pow-suc 2 v, mul_comm (2 ^ v) 2) (sym (div-div-eq-div-mul s 2 (2 ^ v))) in
        rw e (at (s / 2) v)

-- a word of ones, shifted down
pub whole_word : (size : ℕ) → size ≤ 64 → (2 ^ 64 - 1) / 2 ^ (64 - size) ≡ whole size
whole_word size h =
    let k = 64 - size in
    let e : size + k ≡ 64 = omega arith in
    let split : 2 ^ 64 - 1 ≡ (2 ^ size - 1) * 2 ^ k + (2 ^ k - 1) = ap (λ n. 2 ^ n - 1) (sym e) ∙ ones_split size k in
    ap (λ n. n / 2 ^ k) split ∙ shr_high (2 ^ size - 1) k (2 ^ k - 1) (ones_lt k)
