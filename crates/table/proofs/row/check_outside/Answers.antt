use Rattle.std.proofs.Common.{map, length, sym, ◌∙◌, inl, inr, ⊎_elim}
use Rattle.std.proofs.lemmas.List.{length-map}
use Rattle.table.specs.Filling.{made_row}
use Rattle.table.proofs.Verdicts.{outside_none}
use Rattle.table.proofs.row.check_outside.Goals as goal

pub returns : goal.returns
returns g c =
    let s = g.P.Part.set in
    let zip = c.loop-part.part-iterator.iter in
    let gone = ⊎_elim (λ h. inl (length-map zip.a.rest.now _ ∙ h.1.0)) (λ h. inr (length-map zip.b.rest.now s ∙ h.1.0)) c.in-None.ensures.steps.0 in
    sym (outside_none (length c.loop-part.yielded) (made_row g.P.Part.MOST zip.a.rest.now) (map s zip.b.rest.now) gone) ∙ c.loop-part.invariant.0
