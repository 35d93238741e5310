use Rattle.std.proofs.Common.{◌≡◌, ◌+◌, ◌-◌, ◌*◌, ◌≤◌, false, eqb, map, length, refl, sym, ap, ◌∙◌, arith}
use Rattle.std.proofs.lemmas.List.{length-map}
use Rattle.parts.specs.Sets.{minus}
use Rattle.cubes.specs.Areas.{cube_at, put_at}
use Rattle.cubes.proofs.Areas.{map-put, map-cube_at, put_part}
use Rattle.walk.specs.Stack.{piece, stack_of}
use Rattle.walk.proofs.Copies.{copied}
use Rattle.walk.proofs.Stacks.{piece-test, piece-some, put_stack, push_stack, push_kept}
use Rattle.walk.proofs.stack.Stack.push_piece.Goals as goal
use Rattle.walk.proofs.stack.Stack.push_piece.Goals.{then-k-gt0, else-k-gt0}

pub returns-clause-stack : goal.returns-clause-stack
returns-clause-stack g c =
    let s = g.P.Part.set in
    let p = c.args.self.now.p in
    let t = c.args.self.now.depth in
    let k = c.args.k in
    let w = c.args.self.now.work.now in
    let ns = c.args.self.now.numbers.now in
    let b = map s c.args.row.now in
    let x = c.index-self-at.result in
    let y = c.index-row-k.result in
    let said = c.lies_within.ensures ∙ ap (λ z. eqb (minus (s z) (s y)) 0) (sym c.index-self-at.is) in
    let test = piece-test s p t k w c.args.row.now x y (minus (s x) (s y)) c.lies_within.result false c.requires.fits c.requires.size c.requires.part c.index-self-at.is c.index-row-k.is refl said c.if-lies_within.false in
    let more = piece-some c.args.next k (cube_at p t (map s w)) b (stack_of p t (map s w) ns) test in
    elim c.if-k-gt0.branch [
      | then-k-gt0 v ↦
          let us = v.copy_within.new.self in
          let cubes = put_part s p t (t * p + p - t * p) us c.make_piece.new.a (λ a. piece k a b) (omega arith) (rw v.self-is at c.make_piece.ensures) in
          let moved : map s us ≡ put_at p (t + 1) (cube_at p t (map s w)) (map s w) =
          ap (map s) (v.copy_within.ensures.after ∙ copied p t (t * p + p - t * p) w (omega arith))
          ∙ map-put s p (t + 1) (cube_at p t w) w ∙ ap (λ z. put_at p (t + 1) z (map s w)) (map-cube_at s p t w) in
          let fits : t * p + (p + p) ≤ length (map s w) = rw length-map (c.requires.spare v.if-k-gt0.true) in
          rw v.self-is (push_stack p t k c.args.next (map s w) (map s us) _ ns _ b fits c.requires.room moved cubes refl ∙ more)
      | else-k-gt0 v ↦
          let cubes = put_part s p t (t * p + p - t * p) w c.make_piece.new.a (λ a. piece k a b) (omega arith) (rw v.self-is at c.make_piece.ensures) in
          let fits : t * p + p ≤ length (map s w) = rw length-map c.requires.fits in
          rw v.self-is (put_stack p t k c.args.next (map s w) _ ns _ b fits c.requires.room cubes refl ∙ more)
    ]

pub returns-clause-cube : goal.returns-clause-cube
returns-clause-cube g c h =
    let s = g.P.Part.set in
    let p = c.args.self.now.p in
    let t = c.args.self.now.depth in
    let k = c.args.k in
    let w = c.args.self.now.work.now in
    let b = map s c.args.row.now in
    elim c.if-k-gt0.branch [
      | then-k-gt0 v ↦
          let us = v.copy_within.new.self in
          let cubes = put_part s p t (t * p + p - t * p) us c.make_piece.new.a (λ a. piece k a b) (omega arith) (rw v.self-is at c.make_piece.ensures) in
          let moved : map s us ≡ put_at p (t + 1) (cube_at p t (map s w)) (map s w) =
          ap (map s) (v.copy_within.ensures.after ∙ copied p t (t * p + p - t * p) w (omega arith))
          ∙ map-put s p (t + 1) (cube_at p t w) w ∙ ap (λ z. put_at p (t + 1) z (map s w)) (map-cube_at s p t w) in
          let fits : t * p + (p + p) ≤ length (map s w) = rw length-map (c.requires.spare v.if-k-gt0.true) in
          rw v.self-is (push_kept p t k c.args.next (map s w) (map s us) _ c.args.self.now.numbers.now _ b fits c.requires.room moved cubes refl)
      | else-k-gt0 v ↦ let none = v.if-k-gt0.false in absurd (omega arith)
    ]
