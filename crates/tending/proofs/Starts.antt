-- The cards of a call that starts, one after another.
use Rattle.std.proofs.Common.{◌≡◌, ℕ, ◌+◌, ◌<◌, false, List, [], ◌∷◌, ◌++◌, length, get_or, take, drop, set, sym, ap, ◌∙◌, ap₂, arith}
use Rattle.std.proofs.lemmas.List.{take_more_set, take_all, map_more, get_or-map, get_or_append_left, length-map}
use Rattle.cubes.specs.Cubes.{Cover}
use Rattle.cubes.specs.Areas.{cubes, overlay}
use Rattle.cubes.proofs.Areas.{length-cubes, get_or-cubes}
use Rattle.moves.specs.Items.{Item, no_item, weighed, started}
use Rattle.moves.proofs.Taking.{length-carded, get_or-started}
use Rattle.table.specs.declared.card.Card.{Card}
use Rattle.table.specs.Cards.{blank}
use Rattle.table.proofs.OnRows.{overlay_is}
use Rattle.tending.specs.Items.{item_of, items_of, card_of, cards_of}
use Rattle.tending.proofs.Places.{same_items}

module _ (C : Cover) where
  pub length-started : length (started C) ≡ length C
  length-started = length-carded C 0 C

  -- the first i cards are written
  pub start_more : (i : ℕ) (N : List Card) → i < length C → i < length N → take i N ≡ cards_of (take i (started C))
      → take (i + 1) (set N i (record { kind = 0; weight = weighed (get_or C i []) C; place = i; taken = false; tried = false; out = false })) ≡ cards_of (take (i + 1) (started C))
  start_more i N h m e =
      let l : i < length (started C) = omega (arith, length-started) in
      take_more_set N i (record { kind = 0; weight = weighed (get_or C i []) C; place = i; taken = false; tried = false; out = false }) m
      ∙ ap₂ (λ (A : List Card) (x : Item). A ++ card_of x ∷ []) e (sym (get_or-started C i h))
      ∙ sym (map_more card_of (started C) i no_item l)

  -- all are written
  pub start-all : (N E : List Card) → take (length C) N ≡ cards_of (take (length C) (started C)) → drop (length C) N ≡ drop (length C) E → N ≡ overlay (cards_of (started C)) E
  start-all N E t d =
      overlay_is (length C) (cards_of (started C)) N E (length-map (started C) card_of ∙ length-started) (t ∙ ap cards_of (take_all (length C) (started C) (omega (arith, length-started)))) d

-- the items of a call that starts
pub start_items : (p n : ℕ) (S : List ℕ) (E : List Card) → items_of p n S (overlay (cards_of (started (cubes p n S))) E) ≡ started (cubes p n S)
start_items p n S E =
    let C = cubes p n S in
    let K = cards_of (started C) in
    let size : length (started C) ≡ n = length-started C ∙ length-cubes p n S in
    same_items p n S (overlay K E) (started C) size (λ i h.
    let l : i < length (started C) = omega (arith, size) in
    let m : i < length K = omega (arith, size, length-map (started C) card_of) in
    let c : i < length C = omega (arith, length-cubes p n S) in
    let card : get_or (overlay K E) i blank ≡ card_of (get_or (started C) i no_item) =
    get_or_append_left K (drop (length K) E) blank i m ∙ get_or-map card_of (started C) i no_item blank l in
    let start = get_or-started C i c in
    ap₂ item_of (sym (get_or-cubes p n i S h) ∙ ap (λ (x : Item). x.cube) (sym start)) card ∙ ap (λ (x : Item). item_of x.cube (card_of x)) start ∙ sym start)
