-- The text of a cube: one part more, how long it can be, and that it is ASCII.
use Rattle.std.proofs.Common.{◌≡◌, ℕ, zero, suc, ◌+◌, ◌-◌, ◌*◌, ◌<◌, ◌≤◌, Bool, true, false, cond, ◌||◌, eqb, List, [], ◌∷◌, ◌++◌, map, length, get_or, take, IsAscii, sym, refl, ap, ◌∙◌, add-one, arith}
use Rattle.std.specs.Fmt.{digits}
use Rattle.std.proofs.lemmas.List.{append_assoc, append-nil, length-append, length-map, length-take-le, take_more, take_all}
use Rattle.std.proofs.lemmas.Str.Ascii.{IsAscii-nil, IsAscii-cons}
use Rattle.std.proofs.lemmas.Str.{IsAscii-append}
use Rattle.std.proofs.lemmas.Bool.{cond_both}
use Rattle.std.proofs.lemmas.Bool.Decides.{nat_tests}
use Rattle.parts.specs.Sets.{has}
use Rattle.cubes.specs.Cubes.{Cube}
use Rattle.cubes.proofs.Pairs.{read_set}
use Rattle.listing.specs.Text.{mark, marks, ternary_mark, part_text, gap, parts_text, cube_text}
use Rattle.listing.specs.Theorems.{LineFits}
use Rattle.listing.specs.Examples.{AllRight}

-- ---- one value more

pub marks_in : (v u s b : ℕ) (m : Bool) → true ≡ has u v → b ≡ mark m → m ≡ has s v → marks (v + 1) u s ≡ marks v u s ++ b ∷ []
marks_in v u s b m h e f = rw (add-one v, ← h, e, f)

pub marks_out : (v u s : ℕ) → false ≡ has u v → marks (v + 1) u s ≡ marks v u s
marks_out v u s h = rw (add-one v, ← h) (append-nil (marks v u s))

-- ---- one part more

parts_more : (most i : ℕ) (U C : Cube) (u s : ℕ) → length U ≡ length C → parts_text most i (U ++ u ∷ []) (C ++ s ∷ []) ≡ parts_text most i U C ++ (gap most (i + length C) ++ part_text most u s)
parts_more most i [] [] u s e =
    let z : i + 0 ≡ i = omega arith in
    rw z (ap (λ l. gap most i ++ l) (append-nil (part_text most u s)))
parts_more most i [] (b ∷ C) u s e = absurd (omega arith)
parts_more most i (a ∷ U) [] u s e = absurd (omega arith)
parts_more most i (a ∷ U) (b ∷ C) u s e =
    let z : i + suc (length C) ≡ suc i + length C = omega arith in
    let h : length U ≡ length C = omega arith in
    rw (z, parts_more most (suc i) U C u s h, append_assoc (gap most i), append_assoc (part_text most a b))

pub text_more : (most : ℕ) (U C : Cube) (u s : ℕ) → length U ≡ length C → cube_text most (U ++ u ∷ []) (C ++ s ∷ []) ≡ cube_text most U C ++ (gap most (length C) ++ part_text most u s)
text_more most U C u s e = let z : 0 + length C ≡ length C = omega arith in parts_more most 0 U C u s e ∙ ap (λ n. cube_text most U C ++ (gap most n ++ part_text most u s)) z

-- ---- how long it can be

length_mark_le : (a : Bool) (m : ℕ) → length (cond a (m ∷ []) []) ≤ 1
length_mark_le true m = omega arith
length_mark_le false m = omega arith

pub length_marks_le : (n u s : ℕ) → length (marks n u s) ≤ n
length_marks_le zero u s = omega arith
length_marks_le (suc n) u s =
    rw length-append (omega (arith, length_marks_le n u s, length_mark_le (has u n) (mark (has s n))))

pub length_gap_le : (most i : ℕ) → length (gap most i) ≤ 1
length_gap_le most i = cond_both (eqb i 0 || eqb most 2) [] (32 ∷ []) (λ l. length l ≤ 1) (λ _. omega arith) (λ _. omega arith)

pub length_part_le : (most u s : ℕ) → most ≤ 64 → length (part_text most u s) ≤ 64
length_part_le most u s h =
    cond_both (eqb most 2) (ternary_mark s ∷ []) (marks most u s) (λ l. length l ≤ 64) (λ _. omega arith) (λ _. omega (arith, length_marks_le most u s))

length_parts_le : (most i : ℕ) (U C : Cube) → most ≤ 64 → length (parts_text most i U C) ≤ 65 * length C
length_parts_le most i [] C h = omega arith
length_parts_le most i (u ∷ U) [] h = omega arith
length_parts_le most i (u ∷ U) (s ∷ C) h =
    simp length-append (omega (arith, length_gap_le most i, length_part_le most u s h, length_parts_le most (suc i) U C h))

pub length_text_le : (most : ℕ) (U C : Cube) → most ≤ 64 → length (cube_text most U C) ≤ 65 * length C - 1
length_text_le most [] C h = omega arith
length_text_le most (u ∷ U) [] h = omega arith
length_text_le most (u ∷ U) (s ∷ C) h =
    simp length-append (omega (arith, length_part_le most u s h, length_parts_le most 1 U C h))

pub line_fits : LineFits
line_fits most U c h k = simp length-append (omega (arith, length_text_le most U c h))

-- ---- the first parts of what lies in a slice, and one more that was read

module _ {X : Type 0} (set : X → ℕ) (most : ℕ) (xs ys : List X) (i : ℕ) where
  abbrev pub front : List ℕ
  front = cube_text most (take i (map set xs)) (take i (map set ys))

  pub front_more : (x y : X) → i < length xs → i < length ys → x ≡ get_or xs i x → y ≡ get_or ys i y → cube_text most (take (i + 1) (map set xs)) (take (i + 1) (map set ys)) ≡ (front ++ gap most i) ++ part_text most (set x) (set y)
  front_more x y h k e f =
      let U = map set xs in
      let C = map set ys in
      let hU : i < length U = rw length-map h in
      let hC : i < length C = rw length-map k in
      let l : length (take i U) ≡ i = length-take-le i U (omega arith) in
      let m : length (take i C) ≡ i = length-take-le i C (omega arith) in
      let more : cube_text most (take (i + 1) U) (take (i + 1) C) ≡ cube_text most (take i U ++ set x ∷ []) (take i C ++ set y ∷ []) = rw (take_more U i 0 hU, take_more C i 0 hC, read_set set xs i x h e, read_set set ys i y k f) in
      more
      ∙ text_more most (take i U) (take i C) (set x) (set y) (l ∙ sym m)
      ∙ ap (λ n. front ++ (gap most n ++ part_text most (set x) (set y))) m
      ∙ sym (append_assoc front (gap most i) (part_text most (set x) (set y)))

  pub front-all : length xs ≤ i → length ys ≤ i → front ≡ cube_text most (map set xs) (map set ys)
  front-all h k = rw (take_all i (map set xs) (rw length-map h), take_all i (map set ys) (rw length-map k))

  pub length_front_le : most ≤ 64 → i ≤ length ys → length front ≤ 65 * i - 1
  length_front_le h k = omega (arith, length_text_le most (take i (map set xs)) (take i (map set ys)) h, length-take-le i (map set ys) (rw length-map k))

-- ---- it is ASCII

one_ascii : (b : ℕ) → b < 128 → IsAscii (b ∷ [])
one_ascii b h = IsAscii-cons b [] h IsAscii-nil

mark_ascii : (b : Bool) → mark b < 128
mark_ascii true = omega arith
mark_ascii false = omega arith

ternary_ascii : (s : ℕ) → ternary_mark s < 128
ternary_ascii s = grind (arith, nat_tests)

marks_ascii : (n u s : ℕ) → IsAscii (marks n u s)
marks_ascii zero u s = IsAscii-nil
marks_ascii (suc n) u s =
    IsAscii-append (marks n u s) _ (marks_ascii n u s)
    (cond_both (has u n) (mark (has s n) ∷ []) [] IsAscii (λ _. one_ascii _ (mark_ascii (has s n))) (λ _. IsAscii-nil))

part_ascii : (most u s : ℕ) → IsAscii (part_text most u s)
part_ascii most u s =
    cond_both (eqb most 2) (ternary_mark s ∷ []) (marks most u s) IsAscii (λ _. one_ascii _ (ternary_ascii s)) (λ _. marks_ascii most u s)

gap_ascii : (most i : ℕ) → IsAscii (gap most i)
gap_ascii most i = cond_both (eqb i 0 || eqb most 2) [] (32 ∷ []) IsAscii (λ _. IsAscii-nil) (λ _. one_ascii 32 (omega arith))

parts_ascii : (most i : ℕ) (U C : Cube) → IsAscii (parts_text most i U C)
parts_ascii most i [] C = IsAscii-nil
parts_ascii most i (u ∷ U) [] = IsAscii-nil
parts_ascii most i (u ∷ U) (s ∷ C) =
    IsAscii-append (gap most i) _ (gap_ascii most i) (IsAscii-append (part_text most u s) _ (part_ascii most u s) (parts_ascii most (suc i) U C))

pub text_ascii : (most : ℕ) (U C : Cube) → IsAscii (cube_text most U C)
text_ascii most U C = parts_ascii most 0 U C

-- ---- the worked cases

pub all_right : AllRight
unfolding digits
all_right = (refl, (refl, (refl, (refl, (refl, (refl, (refl, (refl, (refl, (refl, tt))))))))))
