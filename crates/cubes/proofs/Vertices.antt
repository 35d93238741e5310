-- `meets` and `covers` in terms of vertices.
use Rattle.std.proofs.Common.{◌≡◌, ℕ, suc, ◌^◌, ◌<◌, true, false, ◌&&◌, eqb, [], ◌∷◌, length, sym, refl, ap, ◌∙◌, inl, inr, arith}
use lib.Bits.{bit_and}
use Rattle.std.specs.List.{AllByRecursion}
use Rattle.std.proofs.lemmas.Bool.Decides.{nat_tests}
use Rattle.std.proofs.lemmas.Bool.{and_parts, and_from, eq-eqb, true≢false, cases_lt}
use Rattle.parts.specs.Sets.{has, minus, some}
use Rattle.parts.proofs.Bits.{has-and, has-minus, has-none, has_past, same, member}
use Rattle.cubes.specs.Cubes.{Cube, Vertex, live, holds, meets, covers}

-- ---- emptiness

pub member-some : (s : ℕ) → some s ≡ true → (v : ℕ) × (has s v ≡ true)
member-some s h = member s (grind (arith, nat_tests))

pub empty : (s : ℕ) → ((v : ℕ) → has s v ≡ false) → s ≡ 0
empty s h = same s 0 (λ v. h v ∙ sym (has-none v))

pub some_since : (s x : ℕ) → has s x ≡ true → some s ≡ true
some_since s x h = grind (arith, nat_tests, has-none x)

pub some_both : (a b x : ℕ) → (has a x && has b x) ≡ true → some (bit_and a b) ≡ true
some_both a b x h = some_since (bit_and a b) x (has-and a b x ∙ h)

-- ---- cubes meet where some vertex is in both

pub meets_since : (A B : Cube) (v : Vertex) → holds A v ≡ true → holds B v ≡ true → meets A B ≡ true
meets_since [] B v h k = refl
meets_since (a ∷ A) [] v h k = refl
meets_since (a ∷ A) (b ∷ B) [] h k = grind arith
meets_since (a ∷ A) (b ∷ B) (x ∷ v) h k = grind (arith, some_both a b x, meets_since A B v)

pub meets_vertex : (A B : Cube) → length A ≡ length B → meets A B ≡ true
    → (v : Vertex) × (length v ≡ length A) × (holds A v ≡ true) × (holds B v ≡ true)
meets_vertex [] [] e h = ([], refl, refl, refl)
meets_vertex [] (b ∷ B) e h = absurd (omega arith)
meets_vertex (a ∷ A) [] e h = absurd (omega arith)
meets_vertex (a ∷ A) (b ∷ B) e h =
    let parts : (some (bit_and a b) ≡ true) × (meets A B ≡ true) = and_parts _ _ h in
    let (x, k) = member-some (bit_and a b) parts.0 in
    let (v, l, p, q) = meets_vertex A B (omega arith) parts.1 in
    (x ∷ v, ap suc l, grind (arith, has-and a b x), grind (arith, has-and a b x))

-- ---- a cube with no empty part has a vertex

pub live_vertex : (A : Cube) → live A ≡ true → (v : Vertex) × (length v ≡ length A) × (holds A v ≡ true)
live_vertex [] h = ([], refl, refl)
live_vertex (a ∷ A) h =
    let parts : (some a ≡ true) × (live A ≡ true) = and_parts _ _ h in
    let (x, k) = member-some a parts.0 in
    let (v, l, p) = live_vertex A parts.1 in
    (x ∷ v, ap suc l, grind arith)

pub vertex_live : (A : Cube) (v : Vertex) → holds A v ≡ true → live A ≡ true
vertex_live [] v h = refl
vertex_live (a ∷ A) [] h = grind arith
vertex_live (a ∷ A) (x ∷ v) h = grind (arith, some_since a x, vertex_live A v)

-- ---- a cube covers one with no empty part where it holds all of its vertices

pub within : (a b x : ℕ) → eqb (minus b a) 0 ≡ true → has b x ≡ true → has a x ≡ true
within a b x h k = grind (arith, nat_tests, has-minus b a x, has-none x)

pub none_less : (a b : ℕ) → ((x : ℕ) → has b x ≡ true → has a x ≡ true) → minus b a ≡ 0
none_less a b f = empty (minus b a) (λ x. grind (arith, has-minus b a x, f x))

pub covers-holds : (A B : Cube) (v : Vertex) → length A ≡ length B → covers A B ≡ true → holds B v ≡ true → holds A v ≡ true
covers-holds [] B v e h k = refl
covers-holds (a ∷ A) [] v e h k = absurd (omega arith)
covers-holds (a ∷ A) (b ∷ B) [] e h k = k
covers-holds (a ∷ A) (b ∷ B) (x ∷ v) e h k = grind (arith, within a b x, covers-holds A B v (omega arith))

pub holds-covers : (A B : Cube) → length A ≡ length B → live B ≡ true
    → ((v : Vertex) → length v ≡ length B → holds B v ≡ true → holds A v ≡ true) → covers A B ≡ true
holds-covers [] B e l h = refl
holds-covers (a ∷ A) [] e l h = refl
holds-covers (a ∷ A) (b ∷ B) e l h =
    let parts : (some b ≡ true) × (live B ≡ true) = and_parts _ _ l in
    let (y, k) = member-some b parts.0 in
    let (w, n, m) = live_vertex B parts.1 in
    let head : minus b a ≡ 0 = none_less a b (λ x g. (and_parts _ _ (h (x ∷ w) (ap suc n) (and_from _ _ g m))).0) in
    let tail : covers A B ≡ true = holds-covers A B (omega arith) parts.1 (λ v n g. (and_parts _ _ (h (y ∷ v) (ap suc n) (and_from _ _ k g))).1) in
    and_from _ _ (eq-eqb _ _ head) tail

-- ---- the vertices of a cube whose sets have only values below the most

pub holds-below : (most : ℕ) (A : Cube) (v : Vertex) → length v ≡ length A → AllByRecursion (λ s. s < 2 ^ most) A → holds A v ≡ true → AllByRecursion (λ x. x < most) v
holds-below most [] [] e f h = tt
holds-below most [] (x ∷ v) e f h = absurd (omega arith)
holds-below most (a ∷ A) [] e f h = tt
holds-below most (a ∷ A) (x ∷ v) e f h =
    let parts : (has a x ≡ true) × (holds A v ≡ true) = and_parts _ _ h in
    let below : x < most = elim (cases_lt x most) [ inl l ↦ l | inr g ↦ absurd (true≢false (sym parts.0 ∙ has_past most a x f.0 g)) ] in
    (below, holds-below most A v (omega arith) f.1 parts.1)
