-- One step of a walk over two cubes.
use Rattle.std.proofs.Common.{◌≡◌, ℕ, ◌+◌, ◌<◌, ◌≤◌, min, Bool, true, false, ◌&&◌, eqb, List, [], ◌∷◌, map, length, get_or, drop, sym, refl, ap, ◌∙◌, ⊎_elim, arith}
use lib.Bits.{bit_and}
use Rattle.std.proofs.lemmas.List.{get_or-map, drop_more, length-map, drop_all}
use Rattle.std.proofs.lemmas.Bool.{cases_lt, and_right}
use Rattle.std.specs.List.{list_all, zip}
use Rattle.parts.specs.Sets.{minus, some}
use Rattle.cubes.specs.Cubes.{same, covers, meets}

-- what was read, as a set
pub read_set : {X : Type 0} (s : X → ℕ) (xs : List X) (i : ℕ) (x : X) → i < length xs → x ≡ get_or xs i x → get_or (map s xs) i 0 ≡ s x
read_set s xs i x h e = get_or-map s xs i x 0 h ∙ ap s (sym e)

-- what is left of a cube, from a part that was read
pub left-set : {X : Type 0} (s : X → ℕ) (xs : List X) (i : ℕ) (x : X) → i < length xs → x ≡ get_or xs i x → drop i (map s xs) ≡ s x ∷ drop (i + 1) (map s xs)
left-set s xs i x h e =
    let l : i < length (map s xs) = rw length-map h in
    drop_more (map s xs) i 0 l ∙ ap (λ y. y ∷ drop (i + 1) (map s xs)) (read_set s xs i x h e)

-- at the end nothing is left
pub left-none : {X : Type 0} (s : X → ℕ) (xs : List X) (i : ℕ) → length xs ≤ i → drop i (map s xs) ≡ []
left-none s xs i h = drop_all i (map s xs) (rw length-map h)

-- what `is_empty` said of a set m, which a call made as n
pub empty_is : (n m : ℕ) (r t : Bool) → n ≡ m → r ≡ eqb n 0 → r ≡ t → eqb m 0 ≡ t
empty_is n m r t e f h = ap (λ k. eqb k 0) (sym e) ∙ sym f ∙ h

-- F is a test of two cubes, part by part; `λ _ _ _ _. refl` shows its step
module _ (F : List ℕ → List ℕ → Bool) (test : ℕ → ℕ → Bool) (step : (a b : ℕ) (A B : List ℕ) → F (a ∷ A) (b ∷ B) ≡ (test a b && F A B)) {X : Type 0} (s : X → ℕ) (xs ys : List X) (i : ℕ) (x y : X) (hx : i < length xs) (hy : i < length ys) (ex : x ≡ get_or xs i x) (ey : y ≡ get_or ys i y) where
  pair_step : F (drop i (map s xs)) (drop i (map s ys)) ≡ (test (s x) (s y) && F (drop (i + 1) (map s xs)) (drop (i + 1) (map s ys)))
  pair_step = rw (left-set s xs i x hx ex, left-set s ys i y hy ey) (step (s x) (s y) (drop (i + 1) (map s xs)) (drop (i + 1) (map s ys)))

  -- where F of what is left is r, by the test of the two parts that are next
  pub pair_true : test (s x) (s y) ≡ true → (r : Bool) → F (drop i (map s xs)) (drop i (map s ys)) ≡ r → F (drop (i + 1) (map s xs)) (drop (i + 1) (map s ys)) ≡ r
  pair_true t r inv = sym (pair_step ∙ ap (λ b. b && F (drop (i + 1) (map s xs)) (drop (i + 1) (map s ys))) t) ∙ inv

  pub pair_false : test (s x) (s y) ≡ false → (r : Bool) → F (drop i (map s xs)) (drop i (map s ys)) ≡ r → false ≡ r
  pair_false t r inv = sym (pair_step ∙ ap (λ b. b && F (drop (i + 1) (map s xs)) (drop (i + 1) (map s ys))) t) ∙ inv

-- past the shorter of two cubes
pub pair_none : (F : List ℕ → List ℕ → Bool) → ((B : List ℕ) → F [] B ≡ true) → ((A : List ℕ) → F A [] ≡ true) → {X : Type 0} (s : X → ℕ) (xs ys : List X) (i : ℕ) → min (length xs) (length ys) ≤ i → (r : Bool) → F (drop i (map s xs)) (drop i (map s ys)) ≡ r → true ≡ r
pair_none F none none' s xs ys i h r inv =
    let all : F (drop i (map s xs)) (drop i (map s ys)) ≡ true =
    ⊎_elim (λ l. rw (left-none s ys i (omega arith)) (none' (drop i (map s xs))))
    (λ l. rw (left-none s xs i l) (none (drop i (map s ys)))) (cases_lt i (length xs)) in
    sym all ∙ inv

-- a test of two cubes, part by part, is a test of all pairs of parts
module _ (F : List ℕ → List ℕ → Bool) (test : ℕ → ℕ → Bool) (none : (B : List ℕ) → F [] B ≡ true) (none' : (a : ℕ) (A : List ℕ) → F (a ∷ A) [] ≡ true) (step : (a b : ℕ) (A B : List ℕ) → F (a ∷ A) (b ∷ B) ≡ (test a b && F A B)) {X : Type 0} (s : X → ℕ) where
  pair_all : (xs ys : List X) → F (map s xs) (map s ys) ≡ list_all (λ (q : X × X). test (s q.0) (s q.1)) (zip xs ys)
  pair_all [] ys = none (map s ys)
  pair_all (x ∷ xs) [] = none' (s x) (map s xs)
  pair_all (x ∷ xs) (y ∷ ys) = step (s x) (s y) (map s xs) (map s ys) ∙ ap (λ b. test (s x) (s y) && b) (pair_all xs ys)

pub covers_all : {X : Type 0} (s : X → ℕ) (xs ys : List X) → covers (map s xs) (map s ys) ≡ list_all (λ (q : X × X). eqb (minus (s q.1) (s q.0)) 0) (zip xs ys)
covers_all s = pair_all covers (λ a b. eqb (minus b a) 0) (λ _. refl) (λ _ _. refl) (λ _ _ _ _. refl) s

pub meets_all : {X : Type 0} (s : X → ℕ) (xs ys : List X) → meets (map s xs) (map s ys) ≡ list_all (λ (q : X × X). some (bit_and (s q.0) (s q.1))) (zip xs ys)
meets_all s = pair_all meets (λ a b. some (bit_and a b)) (λ _. refl) (λ _ _. refl) (λ _ _ _ _. refl) s

-- cubes of other lengths differ
pub same_length : (A B : List ℕ) → (length A ≡ length B → ⊥) → same A B ≡ false
same_length [] [] h = absurd (h refl)
same_length [] (b ∷ B) h = refl
same_length (a ∷ A) [] h = refl
same_length (a ∷ A) (b ∷ B) h = and_right (eqb a b) (same A B) (same_length A B (λ e. h (omega arith)))
