-- What the pieces of a cube hold, and what is left of it.
use Rattle.std.proofs.Common.{◌≡◌, ℕ, suc, Bool, true, false, not, ◌&&◌, ◌||◌, [], ◌∷◌, ◌++◌, map, length, sym, refl, ap, subst, arith}
use lib.Bits.{bit_and}
use Rattle.std.specs.List.{flat_map, AllByRecursion}
use Rattle.std.proofs.lemmas.Bool.Decides.{nat_tests}
use Rattle.std.proofs.lemmas.Bool.{cond_both}
use Rattle.std.proofs.ByRecursion.{All-append, All-map, All-weaker}
use Rattle.parts.specs.Sets.{has, minus, some}
use Rattle.parts.proofs.Bits.{has-and, has-minus, has-none}
use Rattle.cubes.specs.Cubes.{Cube, Vertex, Cover, Wide, holds, held, meets, led, pieces, cut, rest}
use Rattle.cubes.proofs.Vertices.{meets_since}

-- ---- a test's laws

or_assoc : (x y z : Bool) → ((x || y) || z) ≡ (x || (y || z))
or_assoc true y z = refl
or_assoc false y z = refl

taut : (a b x y : Bool) → (((a && not b) && x) || ((a && b) && (x && not y))) ≡ ((a && x) && not (b && y))
taut a b x y = grind arith

-- ---- what a cover holds

pub held-++ : (C D : Cover) (v : Vertex) → held (C ++ D) v ≡ (held C v || held D v)
held-++ [] D v = refl
held-++ (c ∷ C) D v = rw (held-++ C D v) (sym (or_assoc (holds c v) (held C v) (held D v)))

held-map : (s : ℕ) (C : Cover) (x : ℕ) (v : Vertex) → held (map (λ p. s ∷ p) C) (x ∷ v) ≡ (has s x && held C v)
held-map s [] x v = grind arith
held-map s (c ∷ C) x v = rw (held-map s C x v) (grind arith)

held_map-none : (s : ℕ) (C : Cover) → held (map (λ p. s ∷ p) C) [] ≡ false
held_map-none s [] = refl
held_map-none s (c ∷ C) = held_map-none s C

held-led : (s : ℕ) (A : Cube) (x : ℕ) (v : Vertex) → held (led s A) (x ∷ v) ≡ (has s x && holds A v)
held-led s A x v = grind (arith, nat_tests, has-none)

held_led-none : (s : ℕ) (A : Cube) → held (led s A) [] ≡ false
held_led-none s A = grind (arith, nat_tests)

-- ---- the pieces of a cube outside another

pub pieces_exact : (A B : Cube) (v : Vertex) → length A ≡ length B → held (pieces A B) v ≡ (holds A v && not (holds B v))
pieces_exact [] [] v e = refl
pieces_exact [] (b ∷ B) v e = absurd (omega arith)
pieces_exact (a ∷ A) [] v e = absurd (omega arith)
pieces_exact (a ∷ A) (b ∷ B) [] e =
    rw (held-++ (led (minus a b) A) (map (λ p. bit_and a b ∷ p) (pieces A B)) [], held_led-none (minus a b) A, held_map-none (bit_and a b) (pieces A B))
pieces_exact (a ∷ A) (b ∷ B) (x ∷ v) e =
    let ih : held (pieces A B) v ≡ (holds A v && not (holds B v)) = pieces_exact A B v (omega arith) in
    simp (held-++, held-led, held-map, has-minus, has-and, ih) (taut (has a x) (has b x) (holds A v) (holds B v))

pub cut_exact : (A B : Cube) (v : Vertex) → length A ≡ length B → held (cut A B) v ≡ (holds A v && not (holds B v))
cut_exact A B v e = grind (arith, pieces_exact A B v e, meets_since A B v)

-- ---- the pieces have the parts of the cube

led_wide : (s : ℕ) (A : Cube) → Wide (suc (length A)) (led s A)
led_wide s A = cond_both (some s) ((s ∷ A) ∷ []) [] (Wide (suc (length A))) (λ _. (refl, tt)) (λ _. tt)

pub pieces_wide : (A B : Cube) → Wide (length A) (pieces A B)
pieces_wide [] B = tt
pieces_wide (a ∷ A) [] = tt
pieces_wide (a ∷ A) (b ∷ B) =
    All-append (λ p. length p ≡ suc (length A)) _ _ (led_wide (minus a b) A)
    (All-map (λ p. length p ≡ suc (length A)) (λ p. bit_and a b ∷ p) (pieces A B)
    (All-weaker (λ p. length p ≡ length A) _ (λ p e. ap suc e) (pieces A B) (pieces_wide A B)))

pub cut_wide : (A B : Cube) → Wide (length A) (cut A B)
cut_wide A B = cond_both (meets A B) (pieces A B) (A ∷ []) (Wide (length A)) (λ _. pieces_wide A B) (λ _. (refl, tt))

-- ---- what holds of each cube of f, for each cube of a cover, holds of all of them

pub all_joined : (P : Cube → Type 0) (f : Cube → Cover) (C : Cover) → AllByRecursion (λ c. AllByRecursion P (f c)) C → AllByRecursion P (flat_map f C)
all_joined P f [] h = tt
all_joined P f (c ∷ C) h = All-append P (f c) (flat_map f C) h.0 (all_joined P f C h.1)

-- ---- the rest

held_joined : (f : Cube → Cover) (C D : Cover) (v : Vertex) → AllByRecursion (λ p. held (f p) v ≡ (holds p v && not (held D v))) C
    → held (flat_map f C) v ≡ (held C v && not (held D v))
held_joined f [] D v h = refl
held_joined f (c ∷ C) D v h = rw held-++ (grind (arith, h.0, held_joined f C D v h.1))

pub rest_exact : (c : Cube) (C : Cover) (v : Vertex) → Wide (length c) C → held (rest c C) v ≡ (holds c v && not (held C v))
rest_exact c [] v w = grind arith
rest_exact c (d ∷ D) v w =
    let each : AllByRecursion (λ p. held (rest p D) v ≡ (holds p v && not (held D v))) (cut c d) =
    All-weaker (λ p. length p ≡ length c) _ (λ p e. rest_exact p D v (rw e w.1)) (cut c d) (cut_wide c d) in
    grind (arith, held_joined (λ p. rest p D) (cut c d) D v each, cut_exact c d v (sym w.0))

pub rest_wide : (c : Cube) (C : Cover) → Wide (length c) (rest c C)
rest_wide c [] = (refl, tt)
rest_wide c (d ∷ D) =
    all_joined (λ p. length p ≡ length c) (λ p. rest p D) (cut c d)
    (All-weaker (λ p. length p ≡ length c) _ (λ p e. subst (λ n. Wide n (rest p D)) e (rest_wide p D)) (cut c d) (cut_wide c d))
