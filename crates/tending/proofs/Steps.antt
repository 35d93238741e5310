-- Steps on a solution, one after another, keep its areas and what lies behind the cubes.
use Rattle.std.proofs.Common.{◌≡◌, ℕ, ◌+◌, ◌-◌, ◌*◌, ◌≤◌, List, length, drop, sym, refl, ap, ◌∙◌, arith}
use lib.Seq.{paste}
use Rattle.std.proofs.lemmas.List.{drop-drop}
use Rattle.std.proofs.lemmas.List.Edits.{drop-paste}
use Rattle.tending.specs.declared.solution.Solution.{Solution}
use Rattle.tending.specs.Solutions.{SameAreas, BehindStays}
use Rattle.tending.proofs.Places.{places_within}

pub no_step : {X : Type 0} (S : Solution X) → SameAreas S S
no_step S = record { cubes = refl; cards = refl; parts = refl; length = refl; p = refl; count = refl; fewer = omega arith }

pub both_steps : {X : Type 0} (S T U : Solution X) → SameAreas S T → SameAreas T U → SameAreas S U
both_steps S T U a b =
    record {
      cubes = b.cubes ∙ a.cubes;
      cards = b.cards ∙ a.cards;
      parts = b.parts ∙ a.parts;
      length = b.length ∙ a.length;
      p = b.p ∙ a.p;
      count = b.count ∙ a.count;
      fewer = omega (arith, a.fewer, b.fewer);
    }

-- what is the same from a place on is the same from each later one on
pub stays_behind : {X : Type 0} (m n : ℕ) (xs ys : List X) → m ≤ n → drop m xs ≡ drop m ys → drop n xs ≡ drop n ys
stays_behind m n xs ys h e =
    let k : m + (n - m) ≡ n = omega arith in
    sym (drop-drop (n - m) m xs ∙ ap (λ i. drop i xs) k) ∙ ap (drop (n - m)) e ∙ (drop-drop (n - m) m ys ∙ ap (λ i. drop i ys) k)

-- what is pasted in front of a place leaves what is behind it
pub paste_behind : {X : Type 0} (xs : List X) (at : ℕ) (ys : List X) (k n : ℕ) → at ≤ length xs → k ≤ length ys → at + k ≤ n → drop n (paste xs at ys k) ≡ drop n xs
paste_behind xs at ys k n a b h = stays_behind (at + k) n (paste xs at ys k) xs h (drop-paste xs at ys k a b)

pub no_behind : {X : Type 0} (S : Solution X) → BehindStays S S
no_behind S = record { cubes = refl; cards = refl }

pub both_behind : {X : Type 0} (S T U : Solution X) → SameAreas S T → BehindStays S T → BehindStays T U → BehindStays S U
both_behind S T U same a b =
    let less : T.n * T.p ≤ S.n * S.p = rw same.p (places_within S.p T.n S.n same.fewer) in
    record {
      cubes = stays_behind (T.n * T.p) (S.n * S.p) U.cubes.now T.cubes.now less b.cubes ∙ a.cubes;
      cards = stays_behind T.n S.n U.cards.now T.cards.now same.fewer b.cards ∙ a.cards;
    }
