-- The widened cube meets no forbidden cube, and no value more can be added.
use Rattle.std.proofs.Common.{◌≡◌, ℕ, zero, suc, ◌<◌, true, false, ◌&&◌, ◌||◌, [], ◌∷◌, length, get_or, set, sym, refl, ap, arith}
use lib.Bits.{bit_and}
use Rattle.std.proofs.lemmas.List.{set-get_or}
use Rattle.std.proofs.lemmas.Bool.Decides.{nat_tests}
use Rattle.parts.specs.Sets.{has, minus, some}
use Rattle.parts.proofs.Bits.{has-and, has-or, has-minus, has-none}
use Rattle.cubes.specs.Cubes.{Cube, Cover, Wide, meets, covers}
use Rattle.cubes.proofs.Vertices.{some_both, empty}
use Rattle.moves.specs.Widen.{touches, beside, blocked, widened}

-- ---- one part apart

meets_at : (k : ℕ) (f r : Cube) (s : ℕ) → length f ≡ length r → k < length f
    → meets (set f k s) r ≡ (some (bit_and s (get_or r k 0)) && beside k f r)
meets_at k [] r s e h = absurd (omega arith)
meets_at k (a ∷ f) [] s e h = absurd (omega arith)
meets_at zero (a ∷ f) (b ∷ r) s e h = refl
meets_at (suc k) (a ∷ f) (b ∷ r) s e h = grind (arith, meets_at k f r s (omega arith) (omega arith))

has-blocked : (k : ℕ) (f r : Cube) (R : Cover) (x : ℕ)
    → has (blocked k f (r ∷ R)) x ≡ ((beside k f r && has (get_or r k 0) x) || has (blocked k f R) x)
has-blocked k f r R x = rw has-or (grind (arith, has-none x))

-- ---- the widened cube meets none

apart : (s t : ℕ) → ((x : ℕ) → has s x ≡ true → has t x ≡ false) → some (bit_and s t) ≡ false
apart s t h = let e : bit_and s t ≡ 0 = empty (bit_and s t) (λ x. grind (arith, has-and s t x, h x)) in rw e

safe : (k : ℕ) (f : Cube) (R : Cover) (s : ℕ) → Wide (length f) R → k < length f
    → ((x : ℕ) → has s x ≡ true → has (blocked k f R) x ≡ false) → touches (set f k s) R ≡ false
safe k f [] s w l h = refl
safe k f (r ∷ R) s w l h =
    let here : beside k f r ≡ true → some (bit_and s (get_or r k 0)) ≡ false =
    λ b. apart s (get_or r k 0) (λ x m. grind (arith, has-blocked k f r R x, h x m)) in
    let later : touches (set f k s) R ≡ false = safe k f R s w.1 l (λ x m. grind (arith, has-blocked k f r R x, h x m)) in
    grind (arith, meets_at k f r s (sym w.0) l)

pub widened-safe : (k u : ℕ) (f : Cube) (R : Cover) → Wide (length f) R → k < length f → touches (widened k u f R) R ≡ false
widened-safe k u f R w l = safe k f R (minus u (blocked k f R)) w l (λ x h. grind (arith, has-minus u (blocked k f R) x))

-- ---- no value more can be added

pub meets-blocked : (k x : ℕ) (f : Cube) (R : Cover) (s : ℕ) → Wide (length f) R → k < length f → has s x ≡ true
    → has (blocked k f R) x ≡ true → touches (set f k s) R ≡ true
meets-blocked k x f [] s w l h b = grind (arith, has-none x)
meets-blocked k x f (r ∷ R) s w l h b =
    grind (arith, has-blocked k f r R x, meets_at k f r s (sym w.0) l, some_both s (get_or r k 0) x, meets-blocked k x f R s w.1 l h)

-- ---- the widened cube covers the cube

minus_self : (a : ℕ) → minus a a ≡ 0
minus_self a = empty (minus a a) (λ x. grind (arith, has-minus a a x))

pub covers_self : (f : Cube) → covers f f ≡ true
covers_self [] = refl
covers_self (a ∷ f) = grind (arith, nat_tests, minus_self a, covers_self f)

pub covers_at : (k : ℕ) (f : Cube) (s : ℕ) → minus (get_or f k 0) s ≡ 0 → covers (set f k s) f ≡ true
covers_at k [] s e = refl
covers_at zero (a ∷ f) s e = grind (arith, nat_tests, covers_self f)
covers_at (suc k) (a ∷ f) s e = grind (arith, nat_tests, minus_self a, covers_at k f s e)

-- the values of part k of f are not blocked, as f meets no cube of R
pub part_more : (k u : ℕ) (f : Cube) (R : Cover) → Wide (length f) R → k < length f → touches f R ≡ false
    → minus (get_or f k 0) u ≡ 0 → minus (get_or f k 0) (minus u (blocked k f R)) ≡ 0
part_more k u f R w l t e =
    let p : ℕ = get_or f k 0 in
    let b : ℕ = blocked k f R in
    empty (minus p (minus u b))
    (λ x. grind (
      arith,
      has-minus p (minus u b) x,
      has-minus u b x,
      has-minus p u x,
      ap (λ s. has s x) e,
      has-none x,
      meets-blocked k x f R p w l,
      ap (λ g. touches g R) (set-get_or f k 0),
    ))

pub widened_more : (k u : ℕ) (f : Cube) (R : Cover) → Wide (length f) R → k < length f → touches f R ≡ false
    → minus (get_or f k 0) u ≡ 0 → covers (widened k u f R) f ≡ true
widened_more k u f R w l t e = covers_at k f _ (part_more k u f R w l t e)
