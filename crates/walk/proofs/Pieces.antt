-- The pieces of a cube outside another, part by part.
use Rattle.std.proofs.Common.{◌≡◌, ℕ, zero, suc, ◌+◌, ◌<◌, ◌≤◌, Bool, true, false, cond, List, [], ◌∷◌, ◌++◌, map, length, get_or, set, refl, ap, ◌∙◌, add-one, arith}
use lib.Bits.{bit_and}
use Rattle.std.proofs.lemmas.List.{map-set, map-append, length-map, length-append}
use Rattle.parts.specs.Sets.{minus, some}
use Rattle.cubes.specs.Cubes.{Cube, Cover, pieces}
use Rattle.cubes.proofs.Pairs.{read_set}
use Rattle.walk.specs.Stack.{piece, piece_at}

-- the common values in the first j parts, and A from there on
abbrev pub mixed : ℕ → Cube → Cube → Cube
mixed zero A B = A
mixed (suc j) [] B = []
mixed (suc j) (a ∷ A) [] = a ∷ A
mixed (suc j) (a ∷ A) (b ∷ B) = bit_and a b ∷ mixed j A B

mixed-suc : (j : ℕ) (A B : Cube) → j < length A → length B ≡ length A → set (mixed j A B) j (bit_and (get_or (mixed j A B) j 0) (get_or B j 0)) ≡ mixed (suc j) A B
mixed-suc j [] B h e = absurd (omega arith)
mixed-suc j (a ∷ A) [] h e = absurd (omega arith)
mixed-suc zero (a ∷ A) (b ∷ B) h e = refl
mixed-suc (suc j) (a ∷ A) (b ∷ B) h e = ap (λ l. bit_and a b ∷ l) (mixed-suc j A B (omega arith) (omega arith))

mixed-piece : (k : ℕ) (A B : Cube) → k < length A → length B ≡ length A → set (mixed k A B) k (minus (get_or (mixed k A B) k 0) (get_or B k 0)) ≡ piece k A B
mixed-piece k [] B h e = absurd (omega arith)
mixed-piece k (a ∷ A) [] h e = absurd (omega arith)
mixed-piece zero (a ∷ A) (b ∷ B) h e = refl
mixed-piece (suc k) (a ∷ A) (b ∷ B) h e = ap (λ l. bit_and a b ∷ l) (mixed-piece k A B (omega arith) (omega arith))

-- a write to one part, by a function of what stands there and in the other cube
module _ {X : Type 0} (s : X → ℕ) (a a0 b : List X) (j : ℕ) (x y v : X) (la : length a ≡ length a0) (lb : length b ≡ length a0) (h : j < length a0) (ex : x ≡ get_or a j x) (ey : y ≡ get_or b j y) (inv : map s a ≡ mixed j (map s a0) (map s b)) where
  written : (f : ℕ → ℕ → ℕ) → s v ≡ f (s x) (s y) → map s (set a j v) ≡ set (mixed j (map s a0) (map s b)) j (f (get_or (mixed j (map s a0) (map s b)) j 0) (get_or (map s b) j 0))
  written f e =
      let rx = read_set s a j x (omega arith) ex in
      let ry = read_set s b j y (omega arith) ey in
      let ev : s v ≡ f (get_or (map s a) j 0) (get_or (map s b) j 0) = rw (rx, ry) e in
      map-set s a j v ∙ ap (set (map s a) j) ev ∙ ap (λ l. set l j (f (get_or l j 0) (get_or (map s b) j 0))) inv

  pub mixed_more : s v ≡ bit_and (s x) (s y) → map s (set a j v) ≡ mixed (j + 1) (map s a0) (map s b)
  mixed_more e =
      let h' : j < length (map s a0) = rw length-map h in
      let l' : length (map s b) ≡ length (map s a0) = simp length-map lb in
      written bit_and e ∙ rw add-one (mixed-suc j (map s a0) (map s b) h' l')

  pub mixed-all : s v ≡ minus (s x) (s y) → map s (set a j v) ≡ piece j (map s a0) (map s b)
  mixed-all e =
      let h' : j < length (map s a0) = rw length-map h in
      let l' : length (map s b) ≡ length (map s a0) = simp length-map lb in
      written minus e ∙ mixed-piece j (map s a0) (map s b) h' l'

pub length-piece : (k : ℕ) (A B : Cube) → length (piece k A B) ≡ length A
length-piece k [] B = refl
length-piece k (a ∷ A) [] = refl
length-piece zero (a ∷ A) (b ∷ B) = refl
length-piece (suc k) (a ∷ A) (b ∷ B) = ap suc (length-piece k A B)

-- ---- the pieces of the parts from k on

abbrev pub pieces_from : ℕ → Cube → Cube → Cover
pieces_from zero A B = pieces A B
pieces_from (suc k) [] B = []
pieces_from (suc k) (a ∷ A) [] = []
pieces_from (suc k) (a ∷ A) (b ∷ B) = map (λ c. bit_and a b ∷ c) (pieces_from k A B)

map-cond : {X Y : Type 0} (f : X → Y) (t : Bool) (x : X) → map f (cond t (x ∷ []) []) ≡ cond t (f x ∷ []) []
map-cond f true x = refl
map-cond f false x = refl

pub pieces_step : (k : ℕ) (A B : Cube) → k < length A → length B ≡ length A → pieces_from k A B ≡ piece_at k A B ++ pieces_from (suc k) A B
pieces_step k [] B h e = absurd (omega arith)
pieces_step k (a ∷ A) [] h e = absurd (omega arith)
pieces_step zero (a ∷ A) (b ∷ B) h e = refl
pieces_step (suc k) (a ∷ A) (b ∷ B) h e =
    let f : Cube → Cube = λ c. bit_and a b ∷ c in
    let t = some (minus (get_or A k 0) (get_or B k 0)) in
    ap (map f) (pieces_step k A B (omega arith) (omega arith))
    ∙ map-append f (piece_at k A B) (pieces_from (suc k) A B)
    ∙ ap (λ l. l ++ map f (pieces_from (suc k) A B)) (map-cond f t (piece k A B))

pub from-none : (k : ℕ) (A B : Cube) → length A ≤ k → pieces_from k A B ≡ []
from-none zero [] B h = refl
from-none zero (a ∷ A) B h = absurd (omega arith)
from-none (suc k) [] B h = refl
from-none (suc k) (a ∷ A) [] h = refl
from-none (suc k) (a ∷ A) (b ∷ B) h = ap (map (λ c. bit_and a b ∷ c)) (from-none k A B (omega arith))

-- ---- how many pieces there are

few : {X : Type 0} (t : Bool) (x : X) → length (cond t (x ∷ []) []) ≤ 1
few true x = omega arith
few false x = omega arith

pub length-pieces : (A B : Cube) → length (pieces A B) ≤ length A
length-pieces [] B = omega arith
length-pieces (a ∷ A) [] = omega arith
length-pieces (a ∷ A) (b ∷ B) =
    let rec = length-pieces A B in
    let t = few (some (minus a b)) (minus a b ∷ A) in
    simp (length-append, length-map) (omega arith)
