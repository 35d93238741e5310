-- What a cube that meets no forbidden cube holds, and covers part by part.
use Rattle.std.proofs.Common.{◌≡◌, ℕ, zero, suc, Bool, true, false, eqb, [], ◌∷◌, length, get_or, set, sym, refl, ◌∙◌, ⊎_elim, arith}
use Rattle.std.proofs.lemmas.Bool.Decides.{nat_tests}
use Rattle.std.proofs.lemmas.Bool.{and_parts, and_from, or_cases, both_ways, true≢false, eq-eqb}
use Rattle.parts.specs.Sets.{minus, some}
use Rattle.parts.proofs.Bits.{has-minus}
use Rattle.cubes.specs.Cubes.{Cube, Vertex, Cover, Wide, live, holds, held, covers}
use Rattle.cubes.proofs.Vertices.{meets_since, meets_vertex, covers-holds, empty, none_less, within, member-some, some_since}
use Rattle.moves.specs.Widen.{touches}

-- ---- a cube that meets no cube of R holds none of their vertices, and the other way round

pub touches_since : (c : Cube) (R : Cover) (v : Vertex) → holds c v ≡ true → held R v ≡ true → touches c R ≡ true
touches_since c [] v h k = k
touches_since c (r ∷ R) v h k = grind (arith, meets_since c r v h, touches_since c R v h)

pub touches_vertex : (p : ℕ) (c : Cube) (R : Cover) → length c ≡ p → Wide p R → touches c R ≡ true
    → (v : Vertex) × (length v ≡ p) × (holds c v ≡ true) × (held R v ≡ true)
touches_vertex p c [] e w t = absurd (true≢false (sym t))
touches_vertex p c (r ∷ R) e w t = ⊎_elim
    (λ m. let (v, l, h, k) = meets_vertex c r (e ∙ sym w.0) m in (v, l ∙ e, h, grind arith))
    (λ m. let (v, l, h, k) = touches_vertex p c R e w.1 m in (v, l, h, grind arith))
    (or_cases _ _ t)

pub untouched : (p : ℕ) (c : Cube) (R : Cover) → length c ≡ p → Wide p R
    → ((v : Vertex) → length v ≡ p → holds c v ≡ true → held R v ≡ false) → touches c R ≡ false
untouched p c R e w h = by (touches c R) refl
  where
    by : (t : Bool) → touches c R ≡ t → t ≡ false
    by true q = let (v, l, a, b) = touches_vertex p c R e w q in absurd (both_ways _ (h v l a) b)
    by false q = refl

pub touches_more : (p : ℕ) (g f : Cube) (R : Cover) → length g ≡ p → length f ≡ p → Wide p R → covers g f ≡ true → touches f R ≡ true → touches g R ≡ true
touches_more p g f R eg ef w c t =
    let (v, l, a, b) = touches_vertex p f R ef w t in touches_since g R v (covers-holds g f v (eg ∙ sym ef) c a) b

-- ---- covers, part by part

pub covers_part : (A B : Cube) (k : ℕ) → length A ≡ length B → covers A B ≡ true → minus (get_or B k 0) (get_or A k 0) ≡ 0
covers_part [] [] k e h = refl
covers_part [] (b ∷ B) k e h = absurd (omega arith)
covers_part (a ∷ A) [] k e h = absurd (omega arith)
covers_part (a ∷ A) (b ∷ B) zero e h = grind (arith, nat_tests)
covers_part (a ∷ A) (b ∷ B) (suc k) e h = covers_part A B k (omega arith) (and_parts _ _ h).1

pub covers-set : (A B : Cube) (k s : ℕ) → length A ≡ length B → covers A B ≡ true → minus s (get_or A k 0) ≡ 0 → covers A (set B k s) ≡ true
covers-set [] B k s e h m = refl
covers-set (a ∷ A) [] k s e h m = h
covers-set (a ∷ A) (b ∷ B) zero s e h m = grind (arith, nat_tests)
covers-set (a ∷ A) (b ∷ B) (suc k) s e h m = grind (arith, covers-set A B k s (omega arith))

some_more : (a b : ℕ) → eqb (minus b a) 0 ≡ true → some b ≡ true → some a ≡ true
some_more a b e h = let (x, k) = member-some b h in some_since a x (within a b x e k)

pub covers-live : (A B : Cube) → length A ≡ length B → covers A B ≡ true → live B ≡ true → live A ≡ true
covers-live [] B e h l = refl
covers-live (a ∷ A) [] e h l = absurd (omega arith)
covers-live (a ∷ A) (b ∷ B) e h l = grind (arith, some_more a b, covers-live A B (omega arith))

pub covers_trans : (A B C : Cube) → length A ≡ length B → length B ≡ length C → covers A B ≡ true → covers B C ≡ true → covers A C ≡ true
covers_trans [] B C e q h k = refl
covers_trans (a ∷ A) B [] e q h k = refl
covers_trans (a ∷ A) [] (c ∷ C) e q h k = absurd (omega arith)
covers_trans (a ∷ A) (b ∷ B) (c ∷ C) e q h k =
    let ab : (eqb (minus b a) 0 ≡ true) × (covers A B ≡ true) = and_parts _ _ h in
    let bc : (eqb (minus c b) 0 ≡ true) × (covers B C ≡ true) = and_parts _ _ k in
    and_from _ _ (eq-eqb _ _ (none_less a c (λ x m. within a b x ab.0 (within b c x bc.0 m))))
    (covers_trans A B C (omega arith) (omega arith) ab.1 bc.1)

pub minus_inside : (u b : ℕ) → minus (minus u b) u ≡ 0
minus_inside u b = empty _ (λ x. grind (arith, has-minus (minus u b) u x, has-minus u b x))
