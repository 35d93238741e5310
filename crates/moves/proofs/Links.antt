-- What code on slices wants: the parts in which cubes miss each other, and the cubes that marks choose.
use Rattle.std.proofs.Common.{◌≡◌, ℕ, zero, suc, ◌+◌, ◌<◌, ◌≤◌, Bool, true, false, cond, not, ◌&&◌, eqb, List, [], ◌∷◌, ◌++◌, length, get_or, replicate, sym, refl, ap, ◌∙◌, arith}
use lib.Bits.{bit_and}
use Rattle.std.specs.List.{flat_map, AllByRecursion}
use Rattle.std.proofs.lemmas.List.{append-nil}
use Rattle.std.proofs.ByRecursion.{All-weaker}
use Rattle.std.proofs.lemmas.Bool.Decides.{nat_tests}
use Rattle.parts.specs.Sets.{some}
use Rattle.parts.proofs.Bits.{has-and, has-none}
use Rattle.cubes.specs.Cubes.{Cube, Cover, meets, pieces, cut, rest}
use Rattle.cubes.specs.Tables.{Row, dc_rows, all_rows}
use Rattle.cubes.proofs.Vertices.{empty}
use Rattle.cubes.proofs.Cuts.{cut_wide}
use Rattle.moves.specs.Items.{Item, cubes_of}
use Rattle.moves.specs.Widen.{beside}
use Rattle.moves.specs.Expand.{misses}
use Rattle.moves.specs.Chosen.{chosen, veiled, dc_marks}

-- ---- the parts in which cubes miss each other

pub meets-misses : (f r : Cube) → length f ≡ length r → meets f r ≡ eqb (misses f r) 0
meets-misses [] r e = refl
meets-misses (a ∷ f) [] e = absurd (omega arith)
meets-misses (a ∷ f) (b ∷ r) e = by (some (bit_and a b)) (meets-misses f r (omega arith))
  where
    by : (t : Bool) → meets f r ≡ eqb (misses f r) 0 → (t && meets f r) ≡ eqb (cond t 0 1 + misses f r) 0
    by true h = grind (arith, nat_tests)
    by false h = grind (arith, nat_tests)

miss_le : (k : ℕ) (f r : Cube) → length f ≡ length r → k < length f → cond (some (bit_and (get_or f k 0) (get_or r k 0))) 0 1 ≤ misses f r
miss_le k [] r e l = absurd (omega arith)
miss_le k (a ∷ f) [] e l = absurd (omega arith)
miss_le zero (a ∷ f) (b ∷ r) e l = omega arith
miss_le (suc k) (a ∷ f) (b ∷ r) e l = omega (arith, miss_le k f r (omega arith) (omega arith))

pub beside_misses : (k : ℕ) (f r : Cube) → length f ≡ length r → k < length f
    → beside k f r ≡ eqb (misses f r) (cond (some (bit_and (get_or f k 0) (get_or r k 0))) 0 1)
beside_misses k [] r e l = absurd (omega arith)
beside_misses k (a ∷ f) [] e l = absurd (omega arith)
beside_misses zero (a ∷ f) (b ∷ r) e l = by (cond (some (bit_and a b)) 0 1) (meets-misses f r (omega arith))
  where
    by : (n : ℕ) → meets f r ≡ eqb (misses f r) 0 → meets f r ≡ eqb (n + misses f r) n
    by n h = grind (arith, nat_tests)
beside_misses (suc k) (a ∷ f) (b ∷ r) e l =
    by (some (bit_and a b)) (cond (some (bit_and (get_or f k 0) (get_or r k 0))) 0 1) (miss_le k f r (omega arith) (omega arith))
    (beside_misses k f r (omega arith) (omega arith))
  where
    by : (t : Bool) (n : ℕ) → n ≤ misses f r → beside k f r ≡ eqb (misses f r) n → (t && beside k f r) ≡ eqb (cond t 0 1 + misses f r) n
    by true n m h = grind (arith, nat_tests)
    by false n m h = grind (arith, nat_tests)

-- of cubes that do not meet
pub beside_once : (k : ℕ) (f r : Cube) → length f ≡ length r → k < length f → meets f r ≡ false
    → beside k f r ≡ (not (some (bit_and (get_or f k 0) (get_or r k 0))) && eqb (misses f r) 1)
beside_once k f r e l h = by (some (bit_and (get_or f k 0) (get_or r k 0))) (beside_misses k f r e l) (sym (meets-misses f r e) ∙ h)
  where
    by : (t : Bool) → beside k f r ≡ eqb (misses f r) (cond t 0 1) → eqb (misses f r) 0 ≡ false → beside k f r ≡ (not t && eqb (misses f r) 1)
    by true a b = a ∙ b
    by false a b = a

-- ---- cubes chosen by marks

chosen_rows : (T : List Row) → chosen (dc_marks T) (all_rows T) ≡ dc_rows T
chosen_rows [] = refl
chosen_rows (r ∷ T) = by r.on (chosen_rows T)
  where
    by : (t : Bool) → chosen (dc_marks T) (all_rows T) ≡ dc_rows T
        → chosen (not t ∷ dc_marks T) (r.cube ∷ all_rows T) ≡ cond t (dc_rows T) (r.cube ∷ dc_rows T)
    by true h = h
    by false h = ap (λ C. r.cube ∷ C) h

chosen_all : (L : List Item) (M : List Bool) (C : Cover) → chosen (replicate (length L) true ++ M) (cubes_of L ++ C) ≡ cubes_of L ++ chosen M C
chosen_all [] M C = refl
chosen_all (i ∷ L) M C = ap (λ D. i.cube ∷ D) (chosen_all L M C)

pub others_chosen : (X : List Item) (f : Item) (Y : List Item) (T : List Row)
    → chosen (replicate (length X) true ++ false ∷ (replicate (length Y) true ++ dc_marks T)) (cubes_of (X ++ f ∷ Y) ++ all_rows T)
    ≡ cubes_of X ++ cubes_of Y ++ dc_rows T
others_chosen [] f Y T = chosen_all Y (dc_marks T) (all_rows T) ∙ ap (λ D. cubes_of Y ++ D) (chosen_rows T)
others_chosen (i ∷ X) f Y T = ap (λ D. i.cube ∷ D) (others_chosen X f Y T)

-- ---- cubes that are passed over

-- no cube meets one with an empty part
pub meets_veil : (n : ℕ) (c : Cube) → 0 < n → length c ≡ n → meets c (replicate n 0) ≡ false
meets_veil zero c h e = absurd (omega arith)
meets_veil (suc n) [] h e = absurd (omega arith)
meets_veil (suc n) (a ∷ c) h e = let none : bit_and a 0 ≡ 0 = empty (bit_and a 0) (λ x. grind (arith, has-and a 0 x, has-none x)) in rw none

joined_same : (f g : Cube → Cover) (C : Cover) → AllByRecursion (λ c. f c ≡ g c) C → flat_map f C ≡ flat_map g C
joined_same f g [] h = refl
joined_same f g (c ∷ C) h = rw (h.0, joined_same f g C h.1)

veiled_rest_of : (n : ℕ) (f : Cube) (M : List Bool) (C : Cover) → 0 < n → length f ≡ n → rest f (veiled n M C) ≡ rest f (chosen M C)
veiled_rest_of n f [] C h e = refl
veiled_rest_of n f (m ∷ M) [] h e = refl
veiled_rest_of n f (true ∷ M) (c ∷ C) h e =
    joined_same (λ p. rest p (veiled n M C)) (λ p. rest p (chosen M C)) (cut f c)
    (All-weaker (λ p. length p ≡ length f) _ (λ p q. veiled_rest_of n p M C h (q ∙ e)) (cut f c) (cut_wide f c))
veiled_rest_of n f (false ∷ M) (c ∷ C) h e =
    ap (λ t. flat_map (λ p. rest p (veiled n M C)) (cond t (pieces f (replicate n 0)) (f ∷ []))) (meets_veil n f h e)
    ∙ append-nil (rest f (veiled n M C)) ∙ veiled_rest_of n f M C h e

pub veiled_rest : (f : Cube) (M : List Bool) (C : Cover) → 0 < length f → rest f (veiled (length f) M C) ≡ rest f (chosen M C)
veiled_rest f M C h = veiled_rest_of (length f) f M C h refl
