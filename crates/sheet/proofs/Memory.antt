-- The bench's areas when they are fresh.
use Rattle.std.proofs.Common.{◌≡◌, ℕ, ◌*◌, List, map, replicate, vec_items, ap, ◌∙◌}
use lib.LanesLaws.{map-replicate}
use Rattle.table.specs.declared.card.Card.{Card}
use Rattle.table.specs.Cards.{blank}
use Rattle.sheet.specs.declared.types.Areas.{Areas}
use Rattle.sheet.specs.Bench.{fresh, work_cubes}
use Rattle.sheet.specs.Views.{memory}

module _ {P : Type 0} (set : P → ℕ) (none : P) (void : set none ≡ 0) where
  -- an area of empty parts
  voids : (n : ℕ) (xs : List P) → xs ≡ replicate n none → map set xs ≡ replicate n 0
  voids n xs e = ap (map set) e ∙ map-replicate set n none ∙ ap (replicate n) void

  pub fresh_is :
      (card : Card) → card ≡ blank → (p cubes : ℕ) → cubes ≡ work_cubes p → (a : Areas P)
      → vec_items a.universe ≡ replicate 8 none → vec_items a.table ≡ replicate (32 * p) none → vec_items a.rows ≡ replicate 32 card
      → vec_items a.off ≡ replicate (128 * p) none → vec_items a.solution ≡ replicate (32 * p) none
      → vec_items a.cards ≡ replicate 32 card → vec_items a.work ≡ replicate (cubes * p) none → vec_items a.numbers ≡ replicate cubes 0
      → memory set a ≡ fresh p
  fresh_is card plain p cubes enough a u t r o s k w n =
      let u' = voids 8 _ u in
      let t' = voids (32 * p) _ t in
      let o' = voids (128 * p) _ o in
      let s' = voids (32 * p) _ s in
      let w' = voids (cubes * p) _ w in
      cc
