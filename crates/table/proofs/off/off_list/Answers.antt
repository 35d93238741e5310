use Rattle.std.proofs.Common.{◌≡◌, ◌+◌, ◌-◌, ◌*◌, length, take, replicate, ap, ◌∙◌, arith}
use Rattle.std.proofs.lemmas.List.{length-take-le}
use Rattle.table.specs.Cards.{area_length}
use Rattle.table.proofs.Verdicts.{fits_area}
use Rattle.table.proofs.Offs.{area_fits, cleared_part}
use Rattle.table.proofs.off.off_list.Goals as goal

pub off_within-requires-clause-fits : goal.off_within-requires-clause-fits
off_within-requires-clause-fits g c =
    let s = g.P.Part.set in
    let p = c.args.rows.now.p in
    let ws = c.args.work.now in
    let has = area_length p (length ws) (length c.args.numbers.now) in
    let f = fits_area p (length ws) (length c.args.numbers.now) has c.requires.some (omega arith) in
    let z : c.area_length-has.result * c.width-p.result ≡ has * p = rw c.width-p.ensures (ap (λ n. n * p) (rw c.width-p.ensures at c.area_length-has.ensures)) in
    let w : length (take (c.area_length-has.result * c.width-p.result) ws) ≡ has * p = ap (λ n. length (take n ws)) z ∙ length-take-le (has * p) ws f.0 in
    omega (arith, w, area_fits p (length ws) (length c.args.numbers.now) (1 + (p - 1) * c.args.rows.now.n) c.requires.some c.requires.room)

pub returns-clause-work : goal.returns-clause-work
returns-clause-work g c =
    let s = g.P.Part.set in
    let p = c.args.rows.now.p in
    let ws = c.args.work.now in
    let has = area_length p (length ws) (length c.args.numbers.now) in
    let f = fits_area p (length ws) (length c.args.numbers.now) has c.requires.some (omega arith) in
    let z : c.area_length-has.result * c.width-p.result ≡ has * p = rw c.width-p.ensures (ap (λ n. n * p) (rw c.width-p.ensures at c.area_length-has.ensures)) in
    let w : length (take (c.area_length-has.result * c.width-p.result) ws) ≡ has * p = ap (λ n. length (take n ws)) z ∙ length-take-le (has * p) ws f.0 in
    cleared_part s (c.area_length-has.result * c.width-p.result) (has * p) ws c.off_within.new.work z (c.off_within.ensures.work ∙ ap (λ n. replicate n 0) w)
