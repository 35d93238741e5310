use Rattle.std.proofs.Common.{◌≡◌, ℕ, ◌+◌, ◌^◌, ◌<◌, ◌≤◌, [], ◌∷◌, length, decimal, refl, ◌∙◌, arith, rules}
use Rattle.std.proofs.lemmas.Fmt.{length-decimal-le}
use Rattle.listing.specs.declared.Line.{Line}
use Rattle.listing.specs.Text.{heading_line}
use Rattle.listing.specs.Lines.{Appended}
use Rattle.listing.proofs.Placed.{appended_more, length_appended}
use Rattle.listing.proofs.write_heading.Goals as goal

few_digits : (n : ℕ) → n < 2 ^ 64 → length (decimal n) ≤ 20
few_digits n h = length-decimal-le 20 n (omega arith) (omega arith) h

module _ (n : ℕ) (small : n < 2 ^ 64) (l a b : Line) (empty : l.len ≡ 0) (fits : 24 ≤ length l.bytes.now) (x : Appended (76 ∷ []) l a) (y : Appended (32 ∷ []) a b) where
  -- the letter and the space
  begun : Appended (76 ∷ 32 ∷ []) l b
  begun = appended_more (76 ∷ []) l a x (omega arith) (32 ∷ []) b y

  room : b.len + length (decimal n) ≤ length b.bytes.now
  room = omega (arith, begun.wrote.place, few_digits n small, length_appended (76 ∷ 32 ∷ []) l b begun (omega arith))

  -- the digits
  counted : (c : Line) → Appended (decimal n) b c → Appended (76 ∷ 32 ∷ decimal n) l c
  counted c z = appended_more (76 ∷ 32 ∷ []) l b begun (omega arith) (decimal n) c z

  room_more : (c : Line) → Appended (decimal n) b c → (c.len < length c.bytes.now) × (c.len ≤ 22)
  room_more c z =
      let few = few_digits n small in
      let w = counted c z in
      let same = length_appended (76 ∷ 32 ∷ decimal n) l c w (omega arith) in
      (omega (arith, w.wrote.place), omega (arith, w.wrote.place))

  -- the newline
  all : (c d : Line) → Appended (decimal n) b c → Appended (10 ∷ []) c d → Appended (heading_line n) l d
  all c d z v = let few = few_digits n small in appended_more (76 ∷ 32 ∷ decimal n) l c (counted c z) (omega arith) (10 ∷ []) d v

pub decimal-requires : goal.decimal-requires
decimal-requires c =
    room c.args.count (omega arith) _ c.push.new.self c.push-2.new.self refl (omega arith) c.push.ensures c.push-2.ensures

pub push-requires-3 : goal.push-requires-3
push-requires-3 c =
    (room_more c.args.count (omega arith) _ c.push.new.self c.push-2.new.self refl (omega arith) c.push.ensures c.push-2.ensures c.decimal.new.self c.decimal.ensures).0

pub returns-clause-text : goal.returns-clause-text
returns-clause-text c =
    let w = all c.args.count (omega arith) _ c.push.new.self c.push-2.new.self refl (omega arith) c.push.ensures c.push-2.ensures c.decimal.new.self c.push-3.new.self c.decimal.ensures c.push-3.ensures in
    let name = w.lent in
    search rules ∙ w.wrote.line

pub returns-clause-bound : goal.returns-clause-bound
returns-clause-bound c =
    let w = room_more c.args.count (omega arith) _ c.push.new.self c.push-2.new.self refl (omega arith) c.push.ensures c.push-2.ensures c.decimal.new.self c.decimal.ensures in
    omega (arith, c.push-3.ensures.wrote.place)
