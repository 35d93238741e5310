-- Cubes and vertices part by part.
use Rattle.std.proofs.Common.{◌≡◌, ℕ, zero, suc, ◌<◌, ◌≤◌, Bool, true, false, ◌||◌, [], ◌∷◌, length, get_or, sym, refl, ap, arith}
use Rattle.std.proofs.lemmas.Bool.{and_parts, and_from, true≢false}
use Rattle.parts.specs.Sets.{has}
use Rattle.parts.proofs.Bits.{has-or, has-none}
use Rattle.cubes.specs.Cubes.{Cube, Vertex, live, holds}
use Rattle.cubes.proofs.Vertices.{member-some, live_vertex}
use Rattle.moves.specs.Kept.{join}

pub bool_same : (a b : Bool) → (a ≡ true → b ≡ true) → (b ≡ true → a ≡ true) → a ≡ b
bool_same true true f g = refl
bool_same true false f g = sym (f refl)
bool_same false true f g = g refl
bool_same false false f g = refl

-- ---- a cube holds a vertex where each part has its value

pub holds_long : (A : Cube) (v : Vertex) → holds A v ≡ true → length A ≤ length v
holds_long [] v h = omega arith
holds_long (a ∷ A) [] h = absurd (true≢false (sym h))
holds_long (a ∷ A) (x ∷ v) h = omega (arith, holds_long A v (and_parts _ _ h).1)

pub holds_part : (A : Cube) (v : Vertex) (k : ℕ) → holds A v ≡ true → k < length A → has (get_or A k 0) (get_or v k 0) ≡ true
holds_part [] v k h l = absurd (omega arith)
holds_part (a ∷ A) [] k h l = absurd (true≢false (sym h))
holds_part (a ∷ A) (x ∷ v) zero h l = (and_parts _ _ h).0
holds_part (a ∷ A) (x ∷ v) (suc k) h l = holds_part A v k (and_parts _ _ h).1 (omega arith)

pub holds_parts : (A : Cube) (v : Vertex) → length A ≤ length v
    → ((k : ℕ) → k < length A → has (get_or A k 0) (get_or v k 0) ≡ true) → holds A v ≡ true
holds_parts [] v l h = refl
holds_parts (a ∷ A) [] l h = absurd (omega arith)
holds_parts (a ∷ A) (x ∷ v) l h = and_from _ _ (h 0 (omega arith)) (holds_parts A v (omega arith) (λ k m. h (suc k) (omega arith)))

-- a live cube has a vertex with any value of any part
pub live_vertex-at : (A : Cube) (k x : ℕ) → live A ≡ true → k < length A → has (get_or A k 0) x ≡ true
    → (v : Vertex) × (length v ≡ length A) × (holds A v ≡ true) × (get_or v k 0 ≡ x)
live_vertex-at [] k x l h m = absurd (omega arith)
live_vertex-at (a ∷ A) zero x l h m =
    let (v, n, p) = live_vertex A (and_parts _ _ l).1 in (x ∷ v, ap suc n, and_from _ _ m p, refl)
live_vertex-at (a ∷ A) (suc k) x l h m =
    let (y, q) = member-some a (and_parts _ _ l).0 in
    let (v, n, p, e) = live_vertex-at A k x (and_parts _ _ l).1 (omega arith) m in
    (y ∷ v, ap suc n, and_from _ _ q p, e)

-- ---- the join

pub length-join : (A B : Cube) → length (join A B) ≡ length A
length-join [] B = refl
length-join (a ∷ A) [] = refl
length-join (a ∷ A) (b ∷ B) = ap suc (length-join A B)

pub has_join : (A B : Cube) (k x : ℕ) → length A ≡ length B
    → has (get_or (join A B) k 0) x ≡ (has (get_or A k 0) x || has (get_or B k 0) x)
has_join [] [] k x e = grind (arith, has-none x)
has_join [] (b ∷ B) k x e = absurd (omega arith)
has_join (a ∷ A) [] k x e = absurd (omega arith)
has_join (a ∷ A) (b ∷ B) zero x e = has-or a b x
has_join (a ∷ A) (b ∷ B) (suc k) x e = has_join A B k x (omega arith)
