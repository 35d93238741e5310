use Rattle.std.proofs.Common.{◌≡◌, ℕ, ◌+◌, ◌/◌, ◌%◌, ◌^◌, ◌<◌, ◌≤◌, List, [], ◌∷◌, ◌++◌, length, decimal, ap, ◌∙◌, mod-eq_of_lt, sym, arith}
use Rattle.std.proofs.lemmas.Fmt.{decimal_digit, decimal_step}
use Rattle.std.proofs.lemmas.List.{length_push}
use Rattle.listing.specs.declared.Line.{Line}
use Rattle.listing.specs.Lines.{Appended}
use Rattle.listing.proofs.Placed.{appended_none, appended_more, appended_same, length_appended}
use Rattle.listing.proofs.Line.+decimal.Goals as goal
use Rattle.listing.proofs.Line.+decimal.Goals.{then-n-ge10, else-n-ge10}

-- all digits of n but the last were written
record Begun (n : ℕ) (l m : Line) : Type 0 where
  digits : List ℕ
  wrote : Appended digits l m
  whole : decimal n ≡ digits ++ (48 + n % 10) ∷ []

module _ (n : ℕ) (l : Line) (small : n < 2 ^ 64) (fits : l.len + length (decimal n) ≤ length l.bytes.now) where
  -- the number has a digit more than its front
  front_length : 10 ≤ n → length (decimal n) ≡ length (decimal (n / 10)) + 1
  front_length h = ap length (decimal_step n h small) ∙ length_push (decimal (n / 10)) (48 + n % 10)

  several : (m : Line) → 10 ≤ n → Appended (decimal (n / 10)) l m → Begun n l m
  several m h w = record { digits = decimal (n / 10); wrote = w; whole = decimal_step n h small }

  one : n < 10 → Begun n l l
  one h =
      let same : n % 10 ≡ n = mod-eq_of_lt h in
      record { digits = []; wrote = appended_none l (omega arith); whole = decimal_digit n h ∙ ap (λ k. (48 + k) ∷ []) (sym same) }

  module _ (m : Line) (b : Begun n l m) where
    length_digits : length (decimal n) ≡ length b.digits + 1
    length_digits = ap length b.whole ∙ length_push b.digits (48 + n % 10)

    within : l.len + length b.digits ≤ length l.bytes.now
    within = omega (arith, length_digits)

    room : m.len < length m.bytes.now
    room = omega (arith, length_digits, b.wrote.wrote.place, length_appended b.digits l m b.wrote within)

    rest : (k : Line) → Appended ((48 + n % 10) ∷ []) m k → Appended (decimal n) l k
    rest k w = appended_same (appended_more b.digits l m b.wrote within ((48 + n % 10) ∷ []) k w) b.whole

pub decimal-requires : goal.decimal-requires
decimal-requires t c = omega (arith, front_length c.args.n c.args.self.now (omega arith) c.requires c.if-n-ge10.true)

pub push-requires : goal.push-requires
push-requires t c =
    let n = c.args.n in
    let l = c.args.self.now in
    let begun : Begun n l c.if-n-ge10.self = elim c.if-n-ge10.branch [
      | then-n-ge10 w ↦ rw w.self-is (several n l (omega arith) c.requires _ w.if-n-ge10.true w.decimal.ensures)
      | else-n-ge10 w ↦ rw w.self-is (one n l (omega arith) c.requires (omega arith))
    ] in
    room n l (omega arith) c.requires c.if-n-ge10.self begun

pub returns : goal.returns
returns t c =
    let n = c.args.n in
    let l = c.args.self.now in
    let begun : Begun n l c.if-n-ge10.self = elim c.if-n-ge10.branch [
      | then-n-ge10 w ↦ rw w.self-is (several n l (omega arith) c.requires _ w.if-n-ge10.true w.decimal.ensures)
      | else-n-ge10 w ↦ rw w.self-is (one n l (omega arith) c.requires (omega arith))
    ] in
    rest n l (omega arith) c.requires c.if-n-ge10.self begun c.push.new.self c.push.ensures
