use Rattle.std.proofs.Common.{◌≡◌, ℕ, ◌+◌, ◌%◌, ◌^◌, ◌<◌, map, length, get_or, set, sym, refl, ap, ◌∙◌, arith}
use lib.Seq.{paste}
use Rattle.std.proofs.lemmas.List.{length-map, get_or-map, map-set, take-set-le, drop-set-lt}
use Rattle.std.proofs.lemmas.List.Edits.{paste_none, paste_more}
use Rattle.table.proofs.row.write_parts.Goals as goal

pub loop-k-init : goal.loop-k-init
loop-k-init g c = (paste_none (map g.P.Part.set c.args.table.now) c.args.from (map (λ w. w % 2 ^ g.P.Part.MOST) c.args.words.now), refl, refl)

pub loop-k-preserved : goal.loop-k-preserved
loop-k-preserved g c =
    let s = g.P.Part.set in
    let f : ℕ → ℕ = λ w. w % 2 ^ g.P.Part.MOST in
    let k = c.loop-k.k in
    let at = c.args.from in
    let ws = c.args.words.now in
    let d = map s c.args.table.now in
    let h : at + k < length d = rw length-map (omega arith) in
    let l : k < length (map f ws) = rw length-map (omega arith) in
    let e : s c.make.result ≡ get_or (map f ws) k 0 = c.make.ensures.value ∙ sym (get_or-map f ws k 0 0 (omega arith)) in (
      map-set s c.loop-k.table (at + k) c.make.result ∙ ap (λ T. set T (at + k) (s c.make.result)) c.loop-k.invariant.0
          ∙ ap (set (paste d at (map f ws) k) (at + k)) e ∙ paste_more d at (map f ws) k 0 h l,
      take-set-le at c.loop-k.table (at + k) c.make.result (omega arith) ∙ c.loop-k.invariant.1,
      drop-set-lt (at + length ws) c.loop-k.table (at + k) c.make.result (omega arith) ∙ c.loop-k.invariant.2,
    )
