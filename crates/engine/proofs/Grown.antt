-- One cube of an area is grown, and the others that it covers go: what becomes of the items.
use Rattle.std.proofs.Common.{◌≡◌, ℕ, zero, suc, ◌+◌, ◌*◌, ◌<◌, ◌≤◌, false, List, [], ◌∷◌, ◌++◌, length, get_or, take, drop, set, sym, ap, ◌∙◌, subst, ap₂, arith}
use lib.Seq.{set-get_or}
use Rattle.std.specs.List.{AllByRecursion}
use Rattle.std.proofs.lemmas.List.{take-map, drop-map, take-set-le, drop-set-lt, get_or-set_same}
use Rattle.cubes.specs.Areas.{cube_at, cubes, put_at}
use Rattle.cubes.specs.Cubes.{Cube, Cover, Wide}
use Rattle.cubes.proofs.Areas.{wide_cubes}
use Rattle.growth.specs.Others.{others}
use Rattle.moves.specs.Expand.{grown, spared, put_grown, expanding}
use Rattle.moves.specs.Items.{Item, no_item, cubes_of, placed}
use Rattle.moves.specs.Sound.{Apart}
use Rattle.moves.specs.Widen.{touches}
use Rattle.moves.proofs.Expanded.{expanding-safe}
use Rattle.moves.proofs.Growth.{Safe, grown-safe}
use Rattle.moves.proofs.Taking.{split}
use Rattle.table.specs.declared.card.Card.{Card}
use Rattle.table.specs.Cards.{blank}
use Rattle.tending.specs.Items.{item_of, items_of, only_at}
use Rattle.tending.proofs.Places.{length_items, get_or-items, cubes_items, items_put}

-- the cubes of the items are safe where the cubes are
pub safe_items : (p : ℕ) (R : Cover) (L : List Item) → Wide p (cubes_of L) → Apart R (cubes_of L) → AllByRecursion (λ i. Safe p R i.cube) L
safe_items p R [] w a = tt
safe_items p R (i ∷ L) w a = ((w.0, a.0), safe_items p R L w.1 a.1)

pub items_safe : (p : ℕ) (R : Cover) (L : List Item) → AllByRecursion (λ i. Safe p R i.cube) L → Apart R (cubes_of L)
items_safe p R [] h = tt
items_safe p R (i ∷ L) h = (h.0.1, items_safe p R L h.1)

pub apart-at : (R C : Cover) (i : ℕ) → i < length C → Apart R C → touches (get_or C i []) R ≡ false
apart-at R [] i h a = absurd (omega arith)
apart-at R (c ∷ C) zero h a = a.0
apart-at R (c ∷ C) (suc i) h a = apart-at R C i (omega arith) a.1

-- the cubes around an item
pub others_items : (p n : ℕ) (S : List ℕ) (K : List Card) (at : ℕ)
    → cubes_of (take at (items_of p n S K)) ++ cubes_of (drop (suc at) (items_of p n S K)) ≡ others at (cubes p n S)
others_items p n S K at =
    let L = items_of p n S K in
    let e : suc at ≡ at + 1 = omega arith in
    ap₂ (λ (A B : Cover). A ++ B)
    (sym (take-map (λ (i : Item). i.cube) at L) ∙ ap (take at) (cubes_items p n S K))
    (sym (drop-map (λ (i : Item). i.cube) (suc at) L) ∙ ap₂ (λ (m : ℕ) (C : Cover). drop m C) e (cubes_items p n S K))

module _ (p n : ℕ) (S : List ℕ) (K : List Card) (fits : n * p ≤ length S) (beside : n ≤ length K) (U : Cube) (R : Cover) (at : ℕ) (h : at < n) where
  abbrev L : List Item
  L = items_of p n S K

  abbrev f : Item
  f = get_or L at no_item

  f_is : f ≡ item_of (cube_at p at S) (get_or K at blank)
  f_is = get_or-items p n at S K h

  in_L : at < length L
  in_L = omega (arith, length_items p n S K)

  -- with the cube G written at its place, the others go that G covers
  put_only : (G : Cube) → length G ≡ p → only_at at (items_of p n (put_at p at G S) K) ≡ put_grown (take at L) f (drop (suc at) L) G
  put_only G size =
      let k = get_or K at blank in
      let x = item_of G k in
      let same : items_of p n (put_at p at G S) K ≡ set L at x =
      ap (items_of p n (put_at p at G S)) (sym (set-get_or K at blank)) ∙ items_put p n S K fits beside at h G k size in
      let y : placed x G ≡ placed f G = ap (λ (i : Item). placed i G) (sym f_is) in
      let l = in_L in
      ap (only_at at) same
      ∙ rw (take-set-le at L at x (omega arith), get_or-set_same L at x no_item l, drop-set-lt (suc at) L at x (omega arith)) (ap (λ (z : Item). spared G (take at L) ++ z ∷ spared G (drop (suc at) L)) y)

  pub grown_items : Wide p R → touches (cube_at p at S) R ≡ false → length (cube_at p at S) ≡ p
      → only_at at (items_of p n (put_at p at (grown U R (cube_at p at S) (others at (cubes p n S))) S) K) ≡ expanding U R (take at L) f (drop (suc at) L)
  grown_items w t e =
      let G = grown U R (cube_at p at S) (others at (cubes p n S)) in
      put_only G (grown-safe p U R (cube_at p at S) (others at (cubes p n S)) w (e, t)).0
      ∙ ap (put_grown (take at L) f (drop (suc at) L))
      (ap₂ (λ (c : Cube) (C : Cover). grown U R c C) (ap (λ (i : Item). i.cube) (sym f_is)) (sym (others_items p n S K at)))

  pub grown-apart : Wide p R → Apart R (cubes p n S) → Apart R (cubes_of (expanding U R (take at L) f (drop (suc at) L)))
  grown-apart w a =
      let P : Item → Type 0 = λ i. Safe p R i.cube in
      let all : AllByRecursion P L = safe_items p R L (rw (cubes_items p n S K) (wide_cubes p n S fits)) (rw (cubes_items p n S K) a) in
      items_safe p R (expanding U R (take at L) f (drop (suc at) L)) (expanding-safe p U R (take at L) f (drop (suc at) L) w (subst (AllByRecursion P) (split at L in_L) all))
