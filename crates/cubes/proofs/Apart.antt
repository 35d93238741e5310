-- The cubes of the rest are apart: how many of them hold a vertex.
use Rattle.std.proofs.Common.{◌≡◌, ℕ, ◌+◌, cond, not, ◌&&◌, [], ◌∷◌, ◌++◌, map, length, sym, refl, arith}
use Rattle.std.specs.List.{flat_map, AllByRecursion}
use Rattle.std.proofs.lemmas.Bool.Decides.{nat_tests}
use Rattle.std.proofs.ByRecursion.{All-weaker}
use Rattle.parts.specs.Sets.{has}
use Rattle.parts.proofs.Bits.{has-and, has-minus, has-none}
use Rattle.cubes.specs.Cubes.{Cube, Vertex, Cover, Wide, holds, held, led, pieces, cut, rest}
use Rattle.cubes.specs.Theorems.{count}
use Rattle.cubes.proofs.Vertices.{meets_since}
use Rattle.cubes.proofs.Cuts.{cut_wide}

count-++ : (C D : Cover) (v : Vertex) → count (C ++ D) v ≡ count C v + count D v
count-++ [] D v = omega arith
count-++ (c ∷ C) D v = omega (arith, count-++ C D v)

count_map : (s : ℕ) (C : Cover) (x : ℕ) (v : Vertex) → count (map (λ p. s ∷ p) C) (x ∷ v) ≡ cond (has s x) (count C v) 0
count_map s [] x v = grind arith
count_map s (c ∷ C) x v = grind (arith, count_map s C x v)

count_map-none : (s : ℕ) (C : Cover) → count (map (λ p. s ∷ p) C) [] ≡ 0
count_map-none s [] = refl
count_map-none s (c ∷ C) = omega (arith, count_map-none s C)

count-led : (s : ℕ) (A : Cube) (x : ℕ) (v : Vertex) → count (led s A) (x ∷ v) ≡ cond (has s x && holds A v) 1 0
count-led s A x v = grind (arith, nat_tests, has-none x)

count_led-none : (s : ℕ) (A : Cube) → count (led s A) [] ≡ 0
count_led-none s A = grind (arith, nat_tests)

pieces-apart : (A B : Cube) (v : Vertex) → length A ≡ length B → count (pieces A B) v ≡ cond (holds A v && not (holds B v)) 1 0
pieces-apart [] [] v e = refl
pieces-apart [] (b ∷ B) v e = absurd (omega arith)
pieces-apart (a ∷ A) [] v e = absurd (omega arith)
pieces-apart (a ∷ A) (b ∷ B) [] e = simp (count-++, count_led-none, count_map-none)
pieces-apart (a ∷ A) (b ∷ B) (x ∷ v) e =
    let ih = pieces-apart A B v (omega arith) in
    simp (count-++, count-led, count_map, has-minus, has-and, ih) (grind arith)

cut_apart : (A B : Cube) (v : Vertex) → length A ≡ length B → count (cut A B) v ≡ cond (holds A v && not (holds B v)) 1 0
cut_apart A B v e = grind (arith, pieces-apart A B v e, meets_since A B v)

-- `holds` of each, and not of D
count_joined : (f : Cube → Cover) (C D : Cover) (v : Vertex) → AllByRecursion (λ p. count (f p) v ≡ cond (holds p v && not (held D v)) 1 0) C
    → count (flat_map f C) v ≡ cond (held D v) 0 (count C v)
count_joined f [] D v h = grind arith
count_joined f (c ∷ C) D v h = rw count-++ (grind (arith, h.0, count_joined f C D v h.1))

pub rest_apart : (c : Cube) (C : Cover) (v : Vertex) → Wide (length c) C → count (rest c C) v ≡ cond (holds c v && not (held C v)) 1 0
rest_apart c [] v w = grind arith
rest_apart c (d ∷ D) v w =
    let each : AllByRecursion (λ p. count (rest p D) v ≡ cond (holds p v && not (held D v)) 1 0) (cut c d) =
    All-weaker (λ p. length p ≡ length c) _ (λ p e. rest_apart p D v (rw e w.1)) (cut c d) (cut_wide c d) in
    grind (arith, count_joined (λ p. rest p D) (cut c d) D v each, cut_apart c d v (sym w.0))
