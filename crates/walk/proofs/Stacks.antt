-- The stack in an area: what a write leaves of it.
use Rattle.std.proofs.Common.{◌≡◌, ℕ, zero, suc, ◌+◌, ◌-◌, ◌*◌, ◌<◌, ◌≤◌, Bool, true, cond, not, eqb, List, [], ◌∷◌, ◌++◌, map, length, get_or, take, drop, set, sym, refl, ap, ◌∙◌, mul-le-mul_right, add-mul, add-one, arith}
use Rattle.std.proofs.lemmas.List.{append_assoc, get_or-take, get_or-drop, take-take, take-set-le, get_or-set_same}
use Rattle.parts.specs.Sets.{minus, some}
use Rattle.cubes.specs.Areas.{cube_at, put_at}
use Rattle.cubes.specs.Cubes.{Cover}
use Rattle.cubes.proofs.Areas.{next_place, place_below, cube_at-front, take_put, length-put, cube_at-put, cube_at-put_above, cube_at-put_below, length-cube_at}
use Rattle.cubes.proofs.Pairs.{read_set, empty_is}
use Rattle.walk.specs.Stack.{Task, stack_of, numbered, piece, piece_at}
use Rattle.walk.proofs.Pieces.{pieces_from, length-piece, pieces_step}

shorter : {X : Type 0} (m n : ℕ) (xs ys : List X) → m ≤ n → take n xs ≡ take n ys → take m xs ≡ take m ys
shorter m n xs ys h e = sym (take-take m n xs h) ∙ ap (take m) e ∙ take-take m n ys h

-- what lies in the first d places decides the stack
pub stack_front : (p d : ℕ) (ws vs ns ms : List ℕ) → take (d * p) ws ≡ take (d * p) vs → take d ns ≡ take d ms → stack_of p d ws ns ≡ stack_of p d vs ms
stack_front p zero ws vs ns ms e f = refl
stack_front p (suc d) ws vs ns ms e f =
    let near : d * p + p ≤ suc d * p = place_below d (suc d) p (omega arith) in
    let below : d < suc d = omega arith in
    let number : get_or ns d 0 ≡ get_or ms d 0 = sym (get_or-take (suc d) ns d 0 below) ∙ ap (λ l. get_or l d 0) f ∙ get_or-take (suc d) ms d 0 below in
    let cube : cube_at p d ws ≡ cube_at p d vs = cube_at-front p d (suc d * p) ws vs near e in
    let tail = stack_front p d ws vs ns ms (shorter (d * p) (suc d * p) ws vs (omega arith) e) (shorter d (suc d) ns ms (omega arith) f) in
    cc

pub length_stack : (p d : ℕ) (ws ns : List ℕ) → length (stack_of p d ws ns) ≡ d
length_stack p zero ws ns = refl
length_stack p (suc d) ws ns = ap suc (length_stack p d ws ns)

-- a cube and its number on top
pub stack_put : (p t v : ℕ) (c ws ns : List ℕ) → t * p + p ≤ length ws → t < length ns → length c ≡ p → stack_of p (t + 1) (put_at p t c ws) (set ns t v) ≡ (v, c) ∷ stack_of p t ws ns
stack_put p t v c ws ns h l e =
    let tail = stack_front p t (put_at p t c ws) ws (set ns t v) ns (take_put p t c ws h e (t * p) (omega arith)) (take-set-le t ns t v (omega arith)) in
    let number = get_or-set_same ns t v 0 l in
    let cube = cube_at-put p t c ws h e in
    rw add-one (cc)

-- room for two cubes from t on
pub room_two : (t d q p : ℕ) → t + 2 ≤ d + q → t * p + (p + p) ≤ d * p + q * p
room_two t d q p h = omega (arith, add-mul t 2 p, add-mul d q p, mul-le-mul_right {m = t + 2} {n = d + q} p h)

pub room_one : (t d q p : ℕ) → t + 1 ≤ d + q → t * p + p ≤ d * p + q * p
room_one t d q p h = omega (arith, add-mul t 1 p, add-mul d q p, mul-le-mul_right {m = t + 1} {n = d + q} p h)

-- the part k of the cube at place t, as it was read
read_cube : {X : Type 0} (s : X → ℕ) (p t k : ℕ) (xs : List X) (x : X) → t * p + p ≤ length xs → k < p → x ≡ get_or xs (t * p + k) x → get_or (cube_at p t (map s xs)) k 0 ≡ s x
read_cube s p t k xs x h l e = get_or-take p (drop (t * p) (map s xs)) k 0 l ∙ get_or-drop (t * p) (map s xs) k 0 ∙ read_set s xs (t * p + k) x (omega arith) e

-- the test whether there is a piece of part k
pub piece-test : {X : Type 0} (s : X → ℕ) (p t k : ℕ) (xs ys : List X) (x y : X) (n : ℕ) (r b : Bool) → t * p + p ≤ length xs → length ys ≡ p → k < p → x ≡ get_or xs (t * p + k) x → y ≡ get_or ys k y → n ≡ minus (s x) (s y) → r ≡ eqb n 0 → r ≡ b → some (minus (get_or (cube_at p t (map s xs)) k 0) (get_or (map s ys) k 0)) ≡ not b
piece-test s p t k xs ys x y n r b h l m ex ey en er eb =
    let rx = read_cube s p t k xs x h m ex in
    let ry = read_set s ys k y (omega arith) ey in
    rw (rx, ry) (ap not (empty_is n (minus (s x) (s y)) r b en er eb))

module _ (next k : ℕ) (a b : List ℕ) (es : List Task) where
  pub piece-some : some (minus (get_or a k 0) (get_or b k 0)) ≡ true → (next, piece k a b) ∷ es ≡ numbered next (piece_at k a b) ++ es
  piece-some e = sym (ap (λ t. numbered next (cond t (piece k a b ∷ []) []) ++ es) e)

-- the piece of the cube at place t put there
pub put_stack : (p t k next : ℕ) (ws vs ns ms b : List ℕ) → t * p + p ≤ length ws → t < length ns → vs ≡ put_at p t (piece k (cube_at p t ws) b) ws → ms ≡ set ns t next → stack_of p (t + 1) vs ms ≡ (next, piece k (cube_at p t ws) b) ∷ stack_of p t ws ns
put_stack p t k next ws vs ns ms b h l e f =
    let size : length (piece k (cube_at p t ws) b) ≡ p = length-piece k (cube_at p t ws) b ∙ length-cube_at p t ws h in
    rw (e, f) (stack_put p t next (piece k (cube_at p t ws) b) ws ns h l size)

-- the cube at place t moved up, and its piece put there
module _ (p t k next : ℕ) (ws us vs ns ms b : List ℕ) (h : t * p + (p + p) ≤ length ws) (l : t < length ns) (d : us ≡ put_at p (t + 1) (cube_at p t ws) ws) (e : vs ≡ put_at p t (piece k (cube_at p t us) b) us) (f : ms ≡ set ns t next) where
  moved-fits : (t + 1) * p + p ≤ length ws
  moved-fits = omega (arith, next_place t p)

  moved-size : length (cube_at p t ws) ≡ p
  moved-size = length-cube_at p t ws (omega arith)

  moved_length : length us ≡ length ws
  moved_length = ap length d ∙ length-put p (t + 1) (cube_at p t ws) ws moved-fits moved-size

  moved-cube : cube_at p t us ≡ cube_at p t ws
  moved-cube = ap (cube_at p t) d ∙ cube_at-put_below p (t + 1) (cube_at p t ws) ws moved-fits moved-size t (omega arith)

  moved-stack : stack_of p t us ns ≡ stack_of p t ws ns
  moved-stack = stack_front p t us ws ns ns (ap (take (t * p)) d ∙ take_put p (t + 1) (cube_at p t ws) ws moved-fits moved-size (t * p) (omega (arith, next_place t p))) refl

  pub push_stack : stack_of p (t + 1) vs ms ≡ (next, piece k (cube_at p t ws) b) ∷ stack_of p t ws ns
  push_stack =
      let len = moved_length in
      put_stack p t k next us vs ns ms b (omega arith) l e f ∙ rw (moved-cube, moved-stack)

  pub push_kept : cube_at p (t + 1) vs ≡ cube_at p t ws
  push_kept =
      let len = moved_length in
      let fits : t * p + p ≤ length us = omega arith in
      let size : length (piece k (cube_at p t us) b) ≡ p = length-piece k (cube_at p t us) b ∙ length-cube_at p t us fits in
      ap (cube_at p (t + 1)) e ∙ cube_at-put_above p t (piece k (cube_at p t us) b) us fits size (t + 1) (omega arith) ∙ ap (cube_at p (t + 1)) d ∙ cube_at-put p (t + 1) (cube_at p t ws) ws moved-fits moved-size

pub numbered-append : (n : ℕ) (C D : Cover) → numbered n (C ++ D) ≡ numbered n C ++ numbered n D
numbered-append n [] D = refl
numbered-append n (c ∷ C) D = ap (λ l. (n, c) ∷ l) (numbered-append n C D)

-- one piece more on the stack
pub more_pieces : (next j k : ℕ) (a a' b : List ℕ) (es fs gs : List Task) → suc j ≡ k → j < length a → length b ≡ length a → a' ≡ a → fs ≡ numbered next (piece_at j a' b) ++ es → es ≡ numbered next (pieces_from k a b) ++ gs → fs ≡ numbered next (pieces_from j a b) ++ gs
more_pieces next j k a a' b es fs gs ek h l ea ef ee =
    ef ∙ ap (λ x. numbered next (piece_at j x b) ++ es) ea
    ∙ ap (λ x. numbered next (piece_at j a b) ++ x) (ee ∙ ap (λ n. numbered next (pieces_from n a b) ++ gs) (sym ek))
    ∙ sym (append_assoc (numbered next (piece_at j a b)) (numbered next (pieces_from (suc j) a b)) gs)
    ∙ ap (λ x. x ++ gs) (sym (numbered-append next (piece_at j a b) (pieces_from (suc j) a b)) ∙ ap (numbered next) (sym (pieces_step j a b h l)))

-- the cube on top
pub stack_top : (p d : ℕ) (ws ns : List ℕ) → 0 < d → stack_of p d ws ns ≡ (get_or ns (d - 1) 0, cube_at p (d - 1) ws) ∷ stack_of p (d - 1) ws ns
stack_top p zero ws ns h = absurd (omega arith)
stack_top p (suc d) ws ns h = let e : suc d - 1 ≡ d = omega arith in rw e
