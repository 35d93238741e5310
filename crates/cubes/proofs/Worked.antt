-- The worked cover: lawful, prime, irredundant.
use Rattle.std.proofs.Common.{◌≡◌, ℕ, zero, suc, ◌<◌, true, false, not, [], ◌∷◌, length, sym, refl, ap, ◌∙◌, arith}
use Rattle.std.proofs.lemmas.Bool.{true≢false}
use Rattle.std.proofs.lemmas.List.{length-append}
use Rattle.parts.specs.Sets.{has}
use Rattle.parts.proofs.Bits.{has-none}
use Rattle.cubes.specs.Cubes.{Vertex, held}
use Rattle.cubes.specs.Tables.{all_rows, Point, Lawful, Prime, Irredundant}
use Rattle.cubes.specs.Examples.{worked_universe, worked_rows, worked_cover, WorkedCover}

-- ---- the points of three parts with two values each

point : (x y z : ℕ) → x < 2 → y < 2 → z < 2 → Point 3 2 (x ∷ y ∷ z ∷ [])
point x y z h k l = (refl, (h, (k, (l, tt))))

-- of a value below two: it is in {0, 1}, and in {1} where it is not in {0}
value : (x : ℕ) → x < 2 → (has 3 x ≡ true) × (has 2 x ≡ not (has 1 x))
value zero h = (refl, refl)
value (suc zero) h = (refl, refl)
value (suc (suc x)) h = absurd (omega arith)

by_points : (P : Vertex → Type 0) → ((x y z : ℕ) → x < 2 → y < 2 → z < 2 → P (x ∷ y ∷ z ∷ [])) → (v : Vertex) → Point 3 2 v → P v
by_points P f [] h = absurd (omega (arith, h.0))
by_points P f (x ∷ []) h = absurd (omega (arith, h.0))
by_points P f (x ∷ y ∷ []) h = absurd (omega (arith, h.0))
by_points P f (x ∷ y ∷ z ∷ []) h = f x y z h.1.0 h.1.1.0 h.1.1.1.0
by_points P f (x ∷ y ∷ z ∷ w ∷ v) h = absurd (omega (arith, h.0))

-- ---- it holds what the rows hold

as_rows : (x y z : ℕ) → x < 2 → y < 2 → z < 2 → held worked_cover (x ∷ y ∷ z ∷ []) ≡ held (all_rows worked_rows) (x ∷ y ∷ z ∷ [])
as_rows x y z h k l = grind (arith, value x h, value y k, value z l)

lawful : Lawful 3 2 worked_universe worked_rows worked_cover
lawful v h =
    let e : held worked_cover v ≡ held (all_rows worked_rows) v = by_points (λ v. held worked_cover v ≡ held (all_rows worked_rows) v) as_rows v h in
    (λ (on, dc). e ∙ on, λ (in', out). e ∙ out)

-- ---- each cube is prime

-- a part that has both values lacks none
none_lacking : (x : ℕ) → has 3 x ≡ true → has 3 x ≡ false → ⊥
none_lacking x h k = true≢false (sym h ∙ k)

no_more : (x : ℕ) → has 3 (suc (suc x)) ≡ true → ⊥
no_more x h = true≢false (sym h ∙ has-none x)

-- 00-: 100 is off, and 010
first_prime : Prime 3 2 worked_universe worked_rows (1 ∷ 1 ∷ 3 ∷ [])
first_prime zero zero h u l = absurd (true≢false l)
first_prime zero (suc zero) h u l = (1 ∷ 0 ∷ 0 ∷ [], point 1 0 0 (omega arith) (omega arith) (omega arith), (refl, refl), refl)
first_prime zero (suc (suc x)) h u l = absurd (no_more x u)
first_prime (suc zero) zero h u l = absurd (true≢false l)
first_prime (suc zero) (suc zero) h u l = (0 ∷ 1 ∷ 0 ∷ [], point 0 1 0 (omega arith) (omega arith) (omega arith), (refl, refl), refl)
first_prime (suc zero) (suc (suc x)) h u l = absurd (no_more x u)
first_prime (suc (suc zero)) x h u l = absurd (none_lacking x u l)
first_prime (suc (suc (suc k))) x h u l = absurd (omega arith)

-- -11: 101 is off, and 110
last_prime : Prime 3 2 worked_universe worked_rows (3 ∷ 2 ∷ 2 ∷ [])
last_prime zero x h u l = absurd (none_lacking x u l)
last_prime (suc zero) zero h u l = (1 ∷ 0 ∷ 1 ∷ [], point 1 0 1 (omega arith) (omega arith) (omega arith), (refl, refl), refl)
last_prime (suc zero) (suc zero) h u l = absurd (true≢false l)
last_prime (suc zero) (suc (suc x)) h u l = absurd (no_more x u)
last_prime (suc (suc zero)) zero h u l = (1 ∷ 1 ∷ 0 ∷ [], point 1 1 0 (omega arith) (omega arith) (omega arith), (refl, refl), refl)
last_prime (suc (suc zero)) (suc zero) h u l = absurd (true≢false l)
last_prime (suc (suc zero)) (suc (suc x)) h u l = absurd (no_more x u)
last_prime (suc (suc (suc k))) x h u l = absurd (omega arith)

-- ---- none can be struck out: only 00- holds 000, and only -11 holds 111

needed : Irredundant 3 2 worked_rows worked_cover
needed [] c Y e =
    let others : Y ≡ (3 ∷ 2 ∷ 2 ∷ []) ∷ [] = cc in
    (0 ∷ 0 ∷ 0 ∷ [], point 0 0 0 (omega arith) (omega arith) (omega arith), (refl, refl), refl, ap (λ D. held D (0 ∷ 0 ∷ 0 ∷ [])) others)
needed (a ∷ []) c Y e =
    let first : a ≡ 1 ∷ 1 ∷ 3 ∷ [] = cc in
    let others : Y ≡ [] = cc in
    (1 ∷ 1 ∷ 1 ∷ [], point 1 1 1 (omega arith) (omega arith) (omega arith), (refl, refl), refl, rw (first, others))
needed (a ∷ b ∷ X) c Y e = absurd (omega (arith, ap length e, length-append X (c ∷ Y)))

pub worked : WorkedCover
worked = (lawful, (first_prime, (last_prime, tt)), needed)
