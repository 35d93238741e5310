use Rattle.std.proofs.Common.{◌≡◌, ◌%◌, ◌^◌, ◌<◌, sym, ap, ◌∙◌, mod-eq_of_lt, arith}
use lib.Bits.{bit_or}
use Rattle.std.proofs.lemmas.Nat.{one_shl}
use Rattle.parts.proofs.Bits.{gather_more, gather_same}
use Rattle.parts.proofs.word_of.Goals as goal
use Rattle.parts.proofs.word_of.Goals.{then-contains, else-contains}

pub loop-v-preserved : goal.loop-v-preserved
loop-v-preserved g c =
    let s = g.P.Part.set c.args.values in
    let v = c.loop-v.v in
    let small : v < 64 = omega (arith, g.met.P.Part.range.1) in
    elim c.if-contains.branch [
      | then-contains w ↦
          w.word-is ∙ ap (λ b. bit_or c.loop-v.word b) (one_shl v 64 small) ∙ ap (λ a. bit_or a (2 ^ v)) c.loop-v.invariant
          ∙ gather_more s v (sym c.contains.ensures ∙ w.if-contains.true)
      | else-contains w ↦ w.word-is ∙ c.loop-v.invariant ∙ gather_same s v (sym c.contains.ensures ∙ w.if-contains.false)
    ]

pub returns : goal.returns
returns g c =
    let s = g.P.Part.set c.args.values in
    let e : c.loop-v.v ≡ g.P.Part.MOST = omega arith in
    c.loop-v.invariant ∙ ap (λ k. s % 2 ^ k) e ∙ mod-eq_of_lt (g.met.P.Part.below c.args.values)
