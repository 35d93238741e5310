use Rattle.std.proofs.Common.{lit<, ◌≡◌, ℕ, ◌<◌, ◌≤◌, length, get_or, map, List, refl, sym, ap, ◌∙◌, rules, arith}
use Rattle.std.specs.Array.{list_steps}
use Rattle.std.proofs.lemmas.Iterator.{YieldsList}
use Rattle.std.proofs.lemmas.Iterator.Adapters.{serves_from_places}
use Rattle.std.proofs.lemmas.Iterator.Consumers.{YieldsList-from_shown}
use Rattle.std.proofs.lemmas.Grind.{same_number_lists, get_or_default_zero}
use Rattle.std.proofs.lemmas.List.{length-map, get_or-map}
use Rattle.parts.specs.Sets.{whole}
use Rattle.sheet.proofs.types.Sizes.words.Goals as goal

-- the items of an array, in order
road : (xs : List ℕ) → YieldsList (list_steps {A = ℕ}) (λ x. x) xs xs
road xs = YieldsList-from_shown (list_steps {A = ℕ}) (λ x. x) (λ s. s) (λ s t h. ap length h) (λ s x t h. h) xs

pub map-requires : goal.map-requires
map-requires c =
    let sizes = c.args.self.now.all in (
      lit< tt,
      (
        lit< tt,
        (
          lit< tt,
          serves_from_places (road sizes) (λ x q h. refl)
              (λ x k h e. let small : x ≤ 64 = omega (arith, c.args.self.now.small k, get_or_default_zero sizes k x h, e) in search rules),
        ),
      ),
    )

pub returns : goal.returns
returns c =
    let sizes = c.args.self.now.all in
    let long : length sizes ≡ 16 = search rules in
    let each : (k : ℕ) → k < length c.map.result → get_or c.map.result k 0 ≡ get_or (map whole sizes) k 0 =
    λ k h. let called = c.map.ensures.items.at k 0 0 (omega (arith, c.map.ensures.items.long)) in
    let value : get_or c.map.result k 0 ≡ whole (get_or sizes k 0) = search rules in
    value ∙ sym (get_or-map whole sizes k 0 0 (omega (arith, c.map.ensures.items.long))) in
    same_number_lists c.map.result (map whole sizes) (rw length-map (c.map.ensures.items.long ∙ sym long)) each
