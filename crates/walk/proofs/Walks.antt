-- The walk: what a stack will come to, where its pieces stand, and how much work it is.
use Rattle.std.proofs.Common.{◌≡◌, ℕ, suc, ◌+◌, ◌-◌, ◌*◌, ◌^◌, ◌<◌, ◌≤◌, min, true, cond, leb, Ok, Err, List, [], ◌∷◌, ◌++◌, map, length, get_or, take, drop, set, sym, refl, ap, ◌∙◌, subst, mul-le-mul_right, suc-mul, mul_comm, add-mul, mul-le-mul_left, one-mul, pow-suc, mul-add, arith}
use native.Mathlib.Nat.{one-le-pow, pow-le-pow_right}
use Rattle.std.specs.List.{flat_map}
use Rattle.std.proofs.lemmas.List.{append-nil, append_assoc, length-append, length-map, drop-map, drop-drop, take_all, take_at, get_or-set_same}
use Rattle.std.proofs.lemmas.Bool.{le-leb, lt-leb}
use Rattle.std.proofs.ByRecursion.{All-drop}
use Rattle.cubes.specs.Areas.{cubes, cube_at, put_at, flat, overlay}
use Rattle.cubes.specs.Cubes.{Cube, Cover, Wide, pieces, rest}
use Rattle.cubes.proofs.Areas.{next_place, place_below, length-cube_at, length-cubes, wide_cubes, get_or-cubes, map-cube_at, map-put, length-put, cubes-put, drop-put, overlay-cubes}
use Rattle.walk.specs.declared.rest.Look.{Look}
use Rattle.walk.specs.declared.rest.Look.TheVariants.{Gone, Cut, Free}
use Rattle.walk.specs.Look.{look_of}
use Rattle.walk.specs.declared.stack.Stack.{Stack}
use Rattle.walk.specs.Written.{count_if_whole}
use Rattle.walk.specs.Stack.{Task, stack_of, numbered, pending, weight, Placed}
use Rattle.walk.proofs.Looks.{look_free, look_gone, cut-from, cut-under, cut_left}
use Rattle.walk.proofs.Pieces.{length-pieces}
use Rattle.walk.proofs.Stacks.{stack_top, length_stack}

-- ---- what a stack will come to

pending-append : (D : Cover) (S T : List Task) → pending D (S ++ T) ≡ pending D S ++ pending D T
pending-append D [] T = refl
pending-append D (t ∷ S) T =
    let r = rest t.1 (drop t.0 D) in
    ap (λ l. r ++ l) (pending-append D S T) ∙ sym (append_assoc r (pending D S) (pending D T))

pending-numbered : (D : Cover) (i : ℕ) (C : Cover) → pending D (numbered i C) ≡ flat_map (λ q. rest q (drop i D)) C
pending-numbered D i [] = refl
pending-numbered D i (c ∷ C) = ap (λ l. rest c (drop i D) ++ l) (pending-numbered D i C)

-- a piece whose rest is that of other pieces, in their place
pending-cut : (D : Cover) (i j : ℕ) (c : Cube) (C : Cover) (S : List Task) → rest c (drop i D) ≡ flat_map (λ q. rest q (drop j D)) C → pending D (numbered j C ++ S) ≡ pending D ((i, c) ∷ S)
pending-cut D i j c C S e =
    pending-append D (numbered j C) S
    ∙ ap (λ l. l ++ pending D S) (pending-numbered D j C ∙ sym e)

-- ---- where the pieces of a stack stand

length-numbered : (i : ℕ) (C : Cover) → length (numbered i C) ≡ length C
length-numbered i [] = refl
length-numbered i (c ∷ C) = ap suc (length-numbered i C)

placed-cut : (q n i : ℕ) (C : Cover) (S : List Task) → length S ≤ q * i → i < n → length C ≤ q + 1 → Placed q n S → Placed q n (numbered (i + 1) C ++ S)
placed-cut q n i [] S h l m pl = pl
placed-cut q n i (c ∷ C) S h l m pl =
    let below : length (numbered (i + 1) C ++ S) ≤ q * (i + 1) = omega (arith, length-append (numbered (i + 1) C) S, length-numbered (i + 1) C, mul-add q i 1) in
    (below, omega arith, placed-cut q n i C S h l (omega arith) pl)

placed-length : (q n : ℕ) (S : List Task) → Placed q n S → length S ≤ 1 + q * n
placed-length q n [] pl = omega arith
placed-length q n (t ∷ S) pl = omega (arith, pl.0, mul-le-mul_left {m = t.0} {n = n} q pl.1)

-- ---- how much work a stack is

weight-numbered : (w n j : ℕ) (C : Cover) (S : List Task) → weight w n (numbered j C ++ S) ≡ length C * (w + 1) ^ (n - j) + weight w n S
weight-numbered w n j [] S = let e : 0 * (w + 1) ^ (n - j) ≡ 0 = omega arith in omega (arith, e)
weight-numbered w n j (c ∷ C) S = omega (arith, weight-numbered w n j C S, suc-mul (length C) ((w + 1) ^ (n - j)))

weight-cut : (w n i j : ℕ) (C : Cover) (c : Cube) (S : List Task) → i ≤ j → j < n → length C ≤ w → weight w n (numbered (j + 1) C ++ S) < weight w n ((i, c) ∷ S)
weight-cut w n i j C c S f h l =
    let x = (w + 1) ^ (n - (j + 1)) in
    let e : n - j ≡ suc (n - (j + 1)) = omega arith in
    let power : (w + 1) ^ (n - j) ≡ x * (w + 1) = ap (λ m. (w + 1) ^ m) e ∙ pow-suc (w + 1) (n - (j + 1)) in
    let some : 1 ≤ x = one-le-pow (n - (j + 1)) (w + 1) (omega arith) in
    let more : (w + 1) ^ (n - j) ≤ (w + 1) ^ (n - i) = pow-le-pow_right {n = w + 1} (omega arith) {i = n - j} {j = n - i} (omega arith) in
    omega (arith, weight-numbered w n (j + 1) C S, power, mul-add x w 1, mul_comm x w, mul-le-mul_right {m = length C} {n = w} x l)

weight_out : (w n i : ℕ) (c : Cube) (S : List Task) → weight w n S < weight w n ((i, c) ∷ S)
weight_out w n i c S = omega (arith, one-le-pow (n - i) (w + 1) (omega arith))

-- ---- the walk

-- the piece that was read, and the look at it
pub record Seen {X : Type 0} (s : X → ℕ) (p : ℕ) (D : Cover) (work : List X) (ns : List ℕ) (depth : ℕ) (cube : List X) (r : Look) : Type 0 where
  pub some : 0 < depth
  pub read : cube ≡ cube_at p (depth - 1) work
  pub look : r ≡ look_of (map s cube) (get_or ns (depth - 1) 0) (drop (get_or ns (depth - 1) 0) D)

pub seen : {X : Type 0} (s : X → ℕ) (p : ℕ) (D : Cover) (k : Stack X) (cube : List X) (next : ℕ) (r : Look) → k.p ≡ p
    → (0 < k.depth) × (cube ≡ cube_at k.p (k.depth - 1) k.work.now) × (next ≡ get_or k.numbers.now (k.depth - 1) 0) → r ≡ look_of (map s cube) next (drop next D) → Seen s p D k.work.now k.numbers.now k.depth cube r
seen s p D k cube next r e t l = record {
  some = t.0;
  read = t.1 ∙ ap (λ m. cube_at m (k.depth - 1) k.work.now) e;
  look = l ∙ ap (λ m. look_of (map s cube) m (drop m D)) t.2;
}

room_cubes : (p n d q : ℕ) → d + q ≤ 1 + (p - 1) * n → d * p + q * p ≤ (1 + (p - 1) * n) * p
room_cubes p n d q h = omega (arith, add-mul d q p, mul-le-mul_right {m = d + q} {n = 1 + (p - 1) * n} p h)

-- What holds at each turn. `start` and `before` are what `work` and `out` were; `count` cubes are written, and the stack is `depth` high.
pub record Walked {X : Type 0} (s : X → ℕ) (p n most : ℕ) (list start before work : List X) (ns : List ℕ) (out : List X) (depth count : ℕ) : Type 0 where
  -- the cubes that are written, and what the stack will come to
  pub all : cubes p count (map s out) ++ pending (cubes p n (map s list)) (stack_of p depth (map s work) ns) ≡ rest (cube_at p 0 (map s start)) (cubes p n (map s list))
  pub placed : Placed (p - 1) n (stack_of p depth (map s work) ns)
  pub count_most : count ≤ most
  -- what lies past the cubes is as it was
  pub stays : drop (count * p) out ≡ drop (count * p) before
  pub fits : (1 + (p - 1) * n) * p ≤ length work
  pub space : most * p ≤ length out
  pub listed : n * p ≤ length list

pub starts : {X : Type 0} (s : X → ℕ) (p n most : ℕ) (list work out : List X) (ns : List ℕ) → 0 < length ns → (1 + (p - 1) * n) * p ≤ length work → most * p ≤ length out → n * p ≤ length list → Walked s p n most list work out work (set ns 0 0) out 1 0
starts s p n most list work out ns h f o l =
    let first : get_or (set ns 0 0) 0 0 ≡ 0 = get_or-set_same ns 0 0 0 h in
    record {
      all = rw first (append-nil (rest (cube_at p 0 (map s work)) (cubes p n (map s list))));
      placed = (omega arith, omega arith, tt);
      count_most = omega arith;
      stays = refl;
      fits = f;
      space = o;
      listed = l;
    }

module _ {X : Type 0} {s : X → ℕ} {p n most : ℕ} {list start before work : List X} {ns : List ℕ} {out : List X} {depth count : ℕ} (w : Walked s p n most list start before work ns out depth count) where
  abbrev rows : Cover
  rows = cubes p n (map s list)

  abbrev done : Cover
  done = cubes p count (map s out)

  abbrev stack : List Task
  stack = stack_of p depth (map s work) ns

  -- all the cubes that there are to write
  abbrev total : Cover
  total = rest (cube_at p 0 (map s start)) rows

  total-length : length total ≡ count + length (pending rows stack)
  total-length = ap length (sym w.all) ∙ length-append done (pending rows stack) ∙ ap (λ m. m + length (pending rows stack)) (length-cubes p count (map s out))

  out_is : take most total ≡ done → map s out ≡ overlay (flat (take most total)) (map s before)
  out_is e =
      let long : count * p ≤ length (map s out) = rw length-map (omega (arith, w.space, mul-le-mul_right {m = count} {n = most} p w.count_most)) in
      let past : drop (count * p) (map s out) ≡ drop (count * p) (map s before) = drop-map s (count * p) out ∙ ap (map s) w.stays ∙ sym (drop-map s (count * p) before) in
      overlay-cubes p count (map s out) (map s before) long past ∙ ap (λ C. overlay (flat C) (map s before)) (sym e)

  pub depth_most : depth ≤ 1 + (p - 1) * n
  depth_most = omega (arith, placed-length (p - 1) n stack w.placed, length_stack p depth (map s work) ns)

  pub depth-fits : depth * p ≤ length work
  depth-fits = omega (arith, w.fits, mul-le-mul_right {m = depth} {n = 1 + (p - 1) * n} p depth_most)

  -- ---- the stack is empty

  module _ (none : depth ≡ 0) where
    nothing : pending rows stack ≡ []
    nothing = ap (λ d. pending rows (stack_of p d (map s work) ns)) none

    end_length : length total ≡ count
    end_length = omega (arith, total-length, ap length nothing)

    pub end_answer : Ok count ≡ count_if_whole most total
    end_answer =
        let fit : leb (length total) most ≡ true = le-leb (length total) most (omega (arith, end_length, w.count_most)) in
        ap Ok (sym end_length) ∙ sym (ap (λ t. cond t (Ok (length total)) (Err (record {}))) fit)

    pub end_stays : drop (min most (length total) * p) out ≡ drop (min most (length total) * p) before
    end_stays = let e : min most (length total) ≡ count = omega (arith, end_length, w.count_most) in rw e w.stays

    pub end_written : map s out ≡ overlay (flat (take most total)) (map s before)
    end_written =
        let is : total ≡ done = sym w.all ∙ ap (λ l. done ++ l) nothing ∙ append-nil done in
        out_is (take_all most total (omega (arith, end_length, w.count_most)) ∙ is)

  -- ---- there is a piece on top

  module _ (some : 0 < depth) where
    -- the piece, its number, and what stands under it
    abbrev top : Cube
    top = cube_at p (depth - 1) (map s work)

    abbrev number : ℕ
    number = get_or ns (depth - 1) 0

    abbrev under : List Task
    under = stack_of p (depth - 1) (map s work) ns

    stack_is : stack ≡ (number, top) ∷ under
    stack_is = stack_top p depth (map s work) ns some

    top_placed : Placed (p - 1) n ((number, top) ∷ under)
    top_placed = subst (Placed (p - 1) n) stack_is w.placed

    pub number_most : number ≤ n
    number_most = top_placed.1

    pub top-fits : (depth - 1) * p + p ≤ length work
    top-fits = omega (arith, w.fits, one-mul p, room_cubes p n (depth - 1) 1 (omega (arith, depth_most)))

    top-size : length top ≡ p
    top-size = length-cube_at p (depth - 1) (map s work) (rw length-map top-fits)

    pub out-weight : weight p n under < weight p n stack
    out-weight = rw stack_is (weight_out p n number top under)

    -- the look at it said r
    module _ (cube : List X) (r : Look) (read : cube ≡ cube_at p (depth - 1) work) (look : r ≡ look_of (map s cube) number (drop number rows)) where
      said : look_of top number (drop number rows) ≡ r
      said = ap (λ x. look_of x number (drop number rows)) (sym (ap (map s) read ∙ map-cube_at s p (depth - 1) work)) ∙ sym look

      -- some row covers it
      gone_pending : r ≡ Gone → pending rows under ≡ pending rows stack
      gone_pending e =
          let wide : Wide (length top) rows = rw top-size (wide_cubes p n (map s list) (rw length-map w.listed)) in
          let none = look_gone top number (drop number rows) (All-drop _ number rows wide) (said ∙ e) in
          sym (ap (pending rows) stack_is ∙ ap (λ l. l ++ pending rows under) none)

      pub gone_walked : r ≡ Gone → Walked s p n most list start before work ns out (depth - 1) count
      gone_walked e = record {
        all = ap (λ l. done ++ l) (gone_pending e) ∙ w.all;
        placed = top_placed.2;
        count_most = w.count_most;
        stays = w.stays;
        fits = w.fits;
        space = w.space;
        listed = w.listed;
      }

      -- no row meets it
      free_pending : r ≡ Free → top ∷ pending rows under ≡ pending rows stack
      free_pending e = sym (ap (pending rows) stack_is ∙ ap (λ l. l ++ pending rows under) (look_free top number (drop number rows) (said ∙ e)))

      -- there is room for no more
      module _ (e : r ≡ Free) (full : count ≡ most) where
        full-length : most < length total
        full-length = omega (arith, total-length, ap length (free_pending e))

        pub full-answer : Err (record {}) ≡ count_if_whole most total
        full-answer = sym (ap (λ t. cond t (Ok (length total)) (Err (record {}))) (lt-leb (length total) most full-length))

        pub full-stays : drop (min most (length total) * p) out ≡ drop (min most (length total) * p) before
        full-stays = let e : min most (length total) ≡ count = omega (arith, full-length) in rw e w.stays

        pub full-written : map s out ≡ overlay (flat (take most total)) (map s before)
        full-written = out_is (ap (take most) (sym w.all) ∙ take_at done (pending rows stack) most (length-cubes p count (map s out) ∙ full))

      -- it is written
      pub free_space : (count ≡ most → ⊥) → count * p + p ≤ length out
      free_space less = omega (arith, w.space, place_below count most p (omega (arith, w.count_most)))

      module _ (e : r ≡ Free) (less : count ≡ most → ⊥) (copied dst : List X) (read' : copied ≡ cube_at p (depth - 1) work) (write : dst ≡ put_at p count copied out) where
        copied_size : length copied ≡ p
        copied_size = ap length read' ∙ length-cube_at p (depth - 1) work top-fits

        dst_is : map s dst ≡ put_at p count top (map s out)
        dst_is = ap (map s) write ∙ map-put s p count copied out ∙ ap (λ x. put_at p count x (map s out)) (ap (map s) read' ∙ map-cube_at s p (depth - 1) work)

        dst_cubes : cubes p (count + 1) (map s dst) ≡ done ++ (top ∷ [])
        dst_cubes = ap (cubes p (count + 1)) dst_is ∙ cubes-put p count top (map s out) (rw length-map (free_space less)) top-size

        dst_stays : drop ((count + 1) * p) dst ≡ drop ((count + 1) * p) before
        dst_stays =
            let next = next_place count p in
            ap (drop ((count + 1) * p)) write ∙ drop-put p count copied out (free_space less) copied_size ((count + 1) * p) (omega arith)
            ∙ rw next (sym (drop-drop p (count * p) out) ∙ ap (drop p) w.stays ∙ drop-drop p (count * p) before)

        pub free_walked : Walked s p n most list start before work ns dst (depth - 1) (count + 1)
        free_walked = record {
          all = ap (λ x. x ++ pending rows under) dst_cubes ∙ append_assoc done (top ∷ []) (pending rows under) ∙ ap (λ x. done ++ x) (free_pending e) ∙ w.all;
          placed = top_placed.2;
          count_most = omega (arith, w.count_most);
          stays = dst_stays;
          fits = w.fits;
          space = omega (arith, w.space, ap length write, length-put p count copied out (free_space less) copied_size);
          listed = w.listed;
        }

      -- row j cuts it
      module _ (j : ℕ) (e : r ≡ Cut j) where
        from : number ≤ j
        from = cut-from n number j rows top (length-cubes p n (map s list)) top_placed.1 (said ∙ e)

        pub cut_below : j < n
        cut_below = cut-under n number j rows top (length-cubes p n (map s list)) top_placed.1 (said ∙ e)

        pub cut-listed : j * p + p ≤ length list
        cut-listed = omega (arith, place_below j n p cut_below, w.listed)

        under-few : length under ≤ (p - 1) * j
        under-few = omega (arith, top_placed.0, mul-le-mul_left {m = number} {n = j} (p - 1) from)

        pub cut-room : 0 < p → depth - 1 + p ≤ 1 + (p - 1) * n
        cut-room h =
            let below = cut_below in
            omega (arith, under-few, length_stack p (depth - 1) (map s work) ns, mul-add (p - 1) j 1, mul-le-mul_left {m = j + 1} {n = n} (p - 1) (omega arith))

        pub cut_fits : 0 < p → (depth - 1) * p + p * p ≤ length work
        cut_fits h = omega (arith, w.fits, room_cubes p n (depth - 1) p (cut-room h))

        -- its pieces outside the row are put in its place
        module _ (row vs : List X) (ms : List ℕ) (d : ℕ) (read' : row ≡ cube_at p j list) (made : stack_of p d (map s vs) ms ≡ numbered (j + 1) (pieces top (map s row)) ++ under) where
          made_is : stack_of p d (map s vs) ms ≡ numbered (j + 1) (pieces top (get_or rows j [])) ++ under
          made_is = made ∙ ap (λ b. numbered (j + 1) (pieces top b) ++ under) (ap (map s) read' ∙ map-cube_at s p j list ∙ sym (get_or-cubes p n j (map s list) cut_below))

          few-pieces : length (pieces top (get_or rows j [])) ≤ p
          few-pieces = omega (arith, length-pieces top (get_or rows j []), top-size)

          pub cut-weight : weight p n (stack_of p d (map s vs) ms) < weight p n stack
          cut-weight = rw (made_is, stack_is) (weight-cut p n number j (pieces top (get_or rows j [])) top under from cut_below few-pieces)

          cut-placed : Placed (p - 1) n (stack_of p d (map s vs) ms)
          cut-placed = subst (Placed (p - 1) n) (sym made_is) (placed-cut (p - 1) n j (pieces top (get_or rows j [])) under under-few cut_below (omega (arith, few-pieces)) top_placed.2)

          cut-pending : pending rows (stack_of p d (map s vs) ms) ≡ pending rows stack
          cut-pending = ap (pending rows) made_is ∙ pending-cut rows number (j + 1) top (pieces top (get_or rows j [])) under (cut_left n number j rows top (length-cubes p n (map s list)) top_placed.1 (said ∙ e)) ∙ sym (ap (pending rows) stack_is)

          pub cut_walked : length vs ≡ length work → Walked s p n most list start before vs ms out d count
          cut_walked same = record {
            all = ap (λ l. done ++ l) cut-pending ∙ w.all;
            placed = cut-placed;
            count_most = w.count_most;
            stays = w.stays;
            fits = omega (arith, w.fits);
            space = w.space;
            listed = w.listed;
          }
