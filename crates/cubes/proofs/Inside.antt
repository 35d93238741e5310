-- What is left of a cube has no empty part; a cube that one of the cover swallows leaves nothing.
use Rattle.std.proofs.Common.{◌≡◌, ℕ, true, eqb, [], ◌∷◌, ◌++◌, length, sym, refl, ◌∙◌, arith}
use lib.Bits.{bit_and}
use Rattle.std.specs.List.{flat_map, AllByRecursion}
use Rattle.std.proofs.lemmas.Bool.{cond_both, and_parts, and_from, eq-eqb, eqb-true}
use Rattle.std.proofs.ByRecursion.{All-append, All-map, All-weaker}
use Rattle.parts.specs.Sets.{has, minus, some}
use Rattle.parts.proofs.Bits.{has-and, has-minus}
use Rattle.cubes.specs.Cubes.{Cube, Cover, live, meets, covers, led, pieces, cut, rest}
use Rattle.cubes.proofs.Vertices.{none_less, within, meets_since, meets_vertex, live_vertex, vertex_live, covers-holds}
use Rattle.cubes.proofs.Cuts.{cut_wide, all_joined}

-- no cube of the cover has an empty part
abbrev pub Live : Cover → Type 0
Live C = AllByRecursion (λ (c : Cube). live c ≡ true) C

-- ---- the rest has no empty part

live-led : (s : ℕ) (A : Cube) → live A ≡ true → Live (led s A)
live-led s A h = cond_both (some s) ((s ∷ A) ∷ []) [] Live (λ e. (grind arith, tt)) (λ _. tt)

pub live-pieces : (A B : Cube) → live A ≡ true → meets A B ≡ true → Live (pieces A B)
live-pieces [] B h m = tt
live-pieces (a ∷ A) [] h m = tt
live-pieces (a ∷ A) (b ∷ B) h m =
    All-append (λ c. live c ≡ true) _ _ (live-led (minus a b) A (grind arith))
    (All-map (λ c. live c ≡ true) (λ p. bit_and a b ∷ p) (pieces A B)
    (All-weaker (λ c. live c ≡ true) _ (λ p e. grind arith) (pieces A B) (live-pieces A B (grind arith) (grind arith))))

pub live-cut : (A B : Cube) → live A ≡ true → Live (cut A B)
live-cut A B h = cond_both (meets A B) (pieces A B) (A ∷ []) Live (λ m. live-pieces A B h m) (λ _. (h, tt))

pub live-rest : (c : Cube) (C : Cover) → live c ≡ true → Live (rest c C)
live-rest c [] h = (h, tt)
live-rest c (d ∷ D) h =
    all_joined (λ p. live p ≡ true) (λ p. rest p D) (cut c d)
    (All-weaker (λ p. live p ≡ true) (λ p. Live (rest p D)) (λ p e. live-rest p D e) (cut c d) (live-cut c d h))

-- ---- a cube that is covered has no pieces

pub pieces_none : (c d : Cube) → covers d c ≡ true → pieces c d ≡ []
pieces_none [] d h = refl
pieces_none (a ∷ c) [] h = refl
pieces_none (a ∷ c) (b ∷ d) h =
    let parts : (eqb (minus a b) 0 ≡ true) × (covers d c ≡ true) = and_parts _ _ h in
    rw (eqb-true (minus a b) 0 parts.0, pieces_none c d parts.1)

-- ---- what covers a cube covers its pieces

less_within : (a b s : ℕ) → eqb (minus a b) 0 ≡ true → ((x : ℕ) → has s x ≡ true → has a x ≡ true) → eqb (minus s b) 0 ≡ true
less_within a b s h f = eq-eqb _ _ (none_less b s (λ x k. within b a x h (f x k)))

covers-led : (s b : ℕ) (A B : Cube) → eqb (minus s b) 0 ≡ true → covers B A ≡ true → AllByRecursion (λ p. covers (b ∷ B) p ≡ true) (led s A)
covers-led s b A B h k = cond_both (some s) ((s ∷ A) ∷ []) [] (AllByRecursion (λ p. covers (b ∷ B) p ≡ true)) (λ _. (and_from _ _ h k, tt)) (λ _. tt)

pub covers-pieces : (d c x : Cube) → length c ≡ length d → covers d c ≡ true → AllByRecursion (λ p. covers d p ≡ true) (pieces c x)
covers-pieces d [] x e h = tt
covers-pieces d (a ∷ c) [] e h = tt
covers-pieces [] (a ∷ c) (y ∷ x) e h = absurd (omega arith)
covers-pieces (b ∷ d) (a ∷ c) (y ∷ x) e h =
    let parts : (eqb (minus a b) 0 ≡ true) × (covers d c ≡ true) = and_parts _ _ h in
    let out : eqb (minus (minus a y) b) 0 ≡ true = less_within a b (minus a y) parts.0 (λ v k. grind (arith, has-minus a y v)) in
    let both : eqb (minus (bit_and a y) b) 0 ≡ true = less_within a b (bit_and a y) parts.0 (λ v k. grind (arith, has-and a y v)) in
    All-append (λ p. covers (b ∷ d) p ≡ true) _ _ (covers-led (minus a y) b c d out parts.1)
    (All-map (λ p. covers (b ∷ d) p ≡ true) (λ p. bit_and a y ∷ p) (pieces c x)
    (All-weaker (λ p. covers d p ≡ true) _ (λ p k. and_from _ _ both k) (pieces c x) (covers-pieces d c x (omega arith) parts.1)))

pub covers-cut : (d c x : Cube) → length c ≡ length d → covers d c ≡ true → AllByRecursion (λ p. covers d p ≡ true) (cut c x)
covers-cut d c x e h = cond_both (meets c x) (pieces c x) (c ∷ []) (AllByRecursion (λ p. covers d p ≡ true)) (λ _. covers-pieces d c x e h) (λ _. (h, tt))

-- ---- a cube that one of the cover meets and covers leaves nothing

joined_none : (f : Cube → Cover) (C : Cover) → AllByRecursion (λ c. f c ≡ []) C → flat_map f C ≡ []
joined_none f [] h = refl
joined_none f (c ∷ C) h = rw h.0 (joined_none f C h.1)

all_three : (P Q R : Cube → Type 0) (C : Cover) → AllByRecursion P C → AllByRecursion Q C → AllByRecursion R C → AllByRecursion (λ c. P c × Q c × R c) C
all_three P Q R [] h k l = tt
all_three P Q R (c ∷ C) h k l = ((h.0, k.0, l.0), all_three P Q R C h.1 k.1 l.1)

live-meets : (c d : Cube) → length c ≡ length d → live c ≡ true → covers d c ≡ true → meets c d ≡ true
live-meets c d e l h = let (v, n, k) = live_vertex c l in meets_since c d v k (covers-holds d c v (sym e) h k)

pub swallowed-live : (c d : Cube) (X Y : Cover) → length c ≡ length d → live c ≡ true → covers d c ≡ true → rest c (X ++ d ∷ Y) ≡ []
swallowed-live c d [] Y e l h = rw (live-meets c d e l h, pieces_none c d h)
swallowed-live c d (x ∷ X) Y e l h =
    joined_none (λ p. rest p (X ++ d ∷ Y)) (cut c x)
    (All-weaker (λ (p : Cube). (length p ≡ length c) × (live p ≡ true) × (covers d p ≡ true)) _ (λ p (n, l, h). swallowed-live p d X Y (n ∙ e) l h) (cut c x)
    (all_three _ _ _ (cut c x) (cut_wide c x) (live-cut c x l) (covers-cut d c x e h)))

pub swallowed : (c d : Cube) (X Y : Cover) → length c ≡ length d → meets c d ≡ true → covers d c ≡ true → rest c (X ++ d ∷ Y) ≡ []
swallowed c d X Y e m h = let (v, n, k, _) = meets_vertex c d e m in swallowed-live c d X Y e (vertex_live c v k) h
