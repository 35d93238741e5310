use Rattle.std.proofs.Common.{◌≡◌, map, length, take, ap, ◌∙◌}
use Rattle.cubes.specs.Areas.{cube_at, put_at, flat, overlay}
use Rattle.cubes.specs.Cubes.{rest}
use Rattle.cubes.specs.Lists.{sets_of}
use Rattle.walk.specs.Written.{count_if_whole}
use Rattle.table.proofs.Offs.{put_first, one_fits}
use Rattle.table.proofs.off.off_within.Goals as goal

pub returns-clause-answer : goal.returns-clause-answer
returns-clause-answer g c =
    let s = g.P.Part.set in
    let l = c.args.rows.now in
    let p = l.p in
    let list = sets_of s l in
    let room = one_fits p l.n (length c.args.work.now) c.requires.fits in
    let start : cube_at p 0 (map s c.copy_cube.new.dst) ≡ take p (map s c.args.universe.now) =
    ap (λ W. cube_at p 0 (map s W)) (c.copy_cube.ensures ∙ ap (λ m. put_at m 0 (take m c.args.universe.now) c.args.work.now) c.width-p.ensures) ∙ put_first s p c.args.work.now c.args.universe.now room c.requires.full in
    c.rest_of-answer.ensures.answer ∙ ap (λ u. count_if_whole c.args.most (rest u list)) start

pub returns-clause-off : goal.returns-clause-off
returns-clause-off g c =
    let s = g.P.Part.set in
    let l = c.args.rows.now in
    let p = l.p in
    let list = sets_of s l in
    let room = one_fits p l.n (length c.args.work.now) c.requires.fits in
    let start : cube_at p 0 (map s c.copy_cube.new.dst) ≡ take p (map s c.args.universe.now) =
    ap (λ W. cube_at p 0 (map s W)) (c.copy_cube.ensures ∙ ap (λ m. put_at m 0 (take m c.args.universe.now) c.args.work.now) c.width-p.ensures) ∙ put_first s p c.args.work.now c.args.universe.now room c.requires.full in
    c.rest_of-answer.ensures.written ∙ ap (λ u. overlay (flat (take c.args.most (rest u list))) (map s c.args.off.now)) start

pub returns-clause-off_stays : goal.returns-clause-off_stays
returns-clause-off_stays g c =
    let s = g.P.Part.set in
    let l = c.args.rows.now in
    let p = l.p in
    let list = sets_of s l in
    let room = one_fits p l.n (length c.args.work.now) c.requires.fits in
    let start : cube_at p 0 (map s c.copy_cube.new.dst) ≡ take p (map s c.args.universe.now) =
    ap (λ W. cube_at p 0 (map s W)) (c.copy_cube.ensures ∙ ap (λ m. put_at m 0 (take m c.args.universe.now) c.args.work.now) c.width-p.ensures) ∙ put_first s p c.args.work.now c.args.universe.now room c.requires.full in
    rw start at c.rest_of-answer.ensures.stays
