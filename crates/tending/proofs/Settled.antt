-- Empty parts behind the first cubes.
use Rattle.std.proofs.Common.{◌≡◌, ℕ, ◌+◌, ◌-◌, ◌*◌, ◌≤◌, List, ◌++◌, map, length, take, drop, replicate, sym, ap, ◌∙◌, ap₂, arith}
use borrow.Rule.Slice.PartMut.{put_mid}
use Rattle.std.proofs.lemmas.List.{append-nil, append_assoc, map-append, take-map, drop-map, drop-drop, drop_all, length-append, length-map, length-take, length-drop, length-replicate, length-take-le}
use Rattle.std.proofs.lemmas.Slice.{drop-put_mid}
use Rattle.cubes.specs.Areas.{cubes, flat, overlay}
use Rattle.cubes.proofs.Areas.{flat-cubes}
use Rattle.tending.proofs.Places.{places_within, places_between}

module _ {X : Type 0} (s : X → ℕ) (p n count : ℕ) (xs : List X) (h : n ≤ count) (fits : count * p ≤ length xs) where
  abbrev k : ℕ
  k = count * p - n * p

  k_is : k ≡ (count - n) * p
  k_is = places_between p n count h

  within : n * p ≤ count * p
  within = places_within p n count h

  long : n * p ≤ length (map s xs)
  long = omega (arith, within, fits, length-map xs s)

  front : flat (cubes p n (map s xs)) ≡ take (n * p) (map s xs)
  front = flat-cubes p n (map s xs) long

  -- the cubes that are left, and empty parts up to the last
  abbrev all : List ℕ
  all = flat (cubes p n (map s xs)) ++ replicate ((count - n) * p) 0

  size : length all ≡ n * p + k
  size =
      length-append (flat (cubes p n (map s xs))) (replicate ((count - n) * p) 0)
      ∙ ap₂ (λ a b. a + b) (ap length front ∙ length-take-le (n * p) (map s xs) long) (length-replicate ((count - n) * p) 0 ∙ sym k_is)

  -- of an area of that length they are all that it holds
  pub settled_whole : length xs ≡ count * p → overlay all (map s xs) ≡ all
  settled_whole exact =
      let end : length (map s xs) ≤ length all = omega (arith, size, length-map xs s, exact, within) in
      ap (λ l. all ++ l) (drop_all (length all) (map s xs) end) ∙ append-nil all

  module _ (ys : List X) (e : map s ys ≡ replicate (length (take k (drop (n * p) xs))) 0) where
    empty : map s ys ≡ replicate k 0
    empty = let l : length (take k (drop (n * p) xs)) ≡ k = simp (length-take, length-drop) (omega (arith, within, fits)) in e ∙ ap (λ m. replicate m 0) l

    pub settled_overlay : map s (put_mid (n * p) k xs ys) ≡ overlay all (map s xs)
    settled_overlay =
        let S = map s xs in
        let rest : map s (drop k (drop (n * p) xs)) ≡ drop (length all) S = ap (map s) (drop-drop k (n * p) xs) ∙ sym (drop-map s (n * p + k) xs) ∙ ap (λ m. drop m S) (sym size) in
        map-append s (take (n * p) xs) (ys ++ drop k (drop (n * p) xs))
        ∙ ap₂ (λ A B. A ++ B)
        (sym (take-map s (n * p) xs) ∙ sym front)
        (map-append s ys (drop k (drop (n * p) xs)) ∙ ap₂ (λ A B. A ++ B) (empty ∙ ap (λ m. replicate m 0) k_is) rest)
        ∙ sym (append_assoc (flat (cubes p n S)) (replicate ((count - n) * p) 0) (drop (length all) S))

    pub settled_behind : drop (count * p) (put_mid (n * p) k xs ys) ≡ drop (count * p) xs
    settled_behind =
        let l : length ys ≡ k = sym (length-map ys s) ∙ ap length empty ∙ length-replicate k 0 in
        drop-put_mid (n * p) k xs ys (count * p) (omega (arith, within, fits)) (omega (arith, within)) l

-- an area that ends where the cubes did with which the call began
module _ {X : Type 0} (s : X → ℕ) (p n count : ℕ) (xs ys : List X) (h : n ≤ count) (exact : length xs ≡ count * p) where
  pub settled_parts : map s ys ≡ replicate (length (take (length xs - n * p) (drop (n * p) xs))) 0 → map s (put_mid (n * p) (length xs - n * p) xs ys) ≡ flat (cubes p n (map s xs)) ++ replicate ((count - n) * p) 0
  settled_parts e =
      let fits : count * p ≤ length xs = omega (arith, exact) in
      let behind : length xs - n * p ≡ count * p - n * p = ap (λ m. m - n * p) exact in
      ap (λ m. map s (put_mid (n * p) m xs ys)) behind
      ∙ settled_overlay s p n count xs h fits ys (e ∙ ap (λ m. replicate (length (take m (drop (n * p) xs))) 0) behind)
      ∙ settled_whole s p n count xs h fits exact
