use Rattle.std.proofs.Common.{◌≡◌, ◌+◌, ◌-◌, ◌*◌, ◌≤◌, ◌++◌, map, length, drop, sym, refl, ap, ◌∙◌, arith}
use Rattle.std.proofs.lemmas.List.{length-map, length-take}
use Rattle.cubes.specs.Areas.{cube_at}
use Rattle.cubes.proofs.Areas.{length-cube_at}
use Rattle.walk.specs.Stack.{numbered}
use Rattle.walk.specs.Tasks.{tasks}
use Rattle.walk.proofs.Pieces.{from-none}
use Rattle.walk.proofs.Stacks.{more_pieces, room_one, room_two}
use Rattle.walk.proofs.stack.Stack.cut.Goals as goal

pub loop-k-init : goal.loop-k-init
loop-k-init g c =
    let s = g.P.Part.set in
    let l = c.pop.new.self in
    let none = from-none l.p (cube_at l.p l.depth (map s l.work.now)) (map s c.args.row.now) (omega (arith, length-take l.p (drop (l.depth * l.p) (map s l.work.now)))) in (
      sym (ap (λ x. numbered c.args.next x ++ tasks s l) none),
      λ _. refl,
      omega arith,
      record { p = refl; work = refl; numbers = refl },
    )

pub push_piece-requires-clause-spare : goal.push_piece-requires-clause-spare
push_piece-requires-clause-spare g c h =
    let inv = c.loop-k.invariant in
    let p = c.args.self.now.p in
    let d = c.args.self.now.depth - 1 in
    let t = c.loop-k.self.depth in
    let ep : c.loop-k.self.p ≡ p = inv.3.p ∙ c.pop.ensures.kept.p in
    let wide = room_two t d p p (omega (arith, inv.2, c.pop.ensures.depth, c.pop.ensures.kept.p)) in
    rw ep (omega (arith, c.requires.fits, wide, inv.3.work, c.pop.ensures.kept.work))

pub loop-k-preserved : goal.loop-k-preserved
loop-k-preserved g c =
    let s = g.P.Part.set in
    let inv = c.loop-k.invariant in
    let done = c.push_piece.ensures in
    let start = c.pop.new.self in
    let here = c.loop-k.self in
    let k = c.loop-k.k in
    let p = start.p in
    let d = start.depth in
    let a = cube_at p d (map s start.work.now) in
    let ep : c.args.self.now.p ≡ p = sym c.pop.ensures.kept.p in
    let len : length (map s start.work.now) ≡ length c.args.self.now.work.now = rw length-map c.pop.ensures.kept.work in
    let one = room_one d d p p (omega arith) in
    let fits : d * p + p ≤ length (map s start.work.now) = omega (arith, rw (ep, ← c.pop.ensures.depth) at c.requires.fits) in
    let size = length-cube_at p d (map s start.work.now) fits in
    let row : length (map s c.args.row.now) ≡ p = rw length-map (c.requires.size ∙ ep) in
    let now : cube_at here.p here.depth (map s here.work.now) ≡ a = ap (λ m. cube_at m here.depth (map s here.work.now)) inv.3.p ∙ inv.1 (omega arith) in (
      more_pieces c.args.next (k - 1) k a (cube_at here.p here.depth (map s here.work.now)) (map s c.args.row.now) (tasks s here) (tasks s c.push_piece.new.self) (tasks s start)
          (omega arith) (omega arith) (omega arith) now done.stack inv.0,
      λ h. ap (λ m. cube_at m c.push_piece.new.self.depth (map s c.push_piece.new.self.work.now)) (sym inv.3.p) ∙ done.cube h ∙ now,
      omega (arith, done.most, inv.2),
      record { p = done.kept.p ∙ inv.3.p; work = done.kept.work ∙ inv.3.work; numbers = done.kept.numbers ∙ inv.3.numbers },
    )
