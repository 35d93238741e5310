use Rattle.std.proofs.Common.{◌+◌, ◌<◌, ◌≤◌, length, arith}
use Rattle.listing.specs.Text.{marks}
use Rattle.listing.proofs.Placed.{appended_more, appended_same, length_appended}
use Rattle.listing.proofs.Texts.{marks_in, marks_out, length_marks_le}
use Rattle.listing.proofs.Line.marks.Goals as goal
use Rattle.listing.proofs.Line.marks.Goals.{then-contains, else-contains}

pub push-requires : goal.push-requires
push-requires g c =
    let u = g.P.Part.set c.args.whole in
    let s = g.P.Part.set c.args.part in
    let written = c.loop-v.invariant in
    let room : c.args.self.now.len + length (marks c.loop-v.v u s) < length c.args.self.now.bytes.now = omega (arith, g.met.P.Part.range, length_marks_le c.loop-v.v u s) in
    omega (arith, written.wrote.place, length_appended (marks c.loop-v.v u s) c.args.self.now c.loop-v.self written (omega arith))

pub loop-v-preserved : goal.loop-v-preserved
loop-v-preserved g c =
    let u = g.P.Part.set c.args.whole in
    let s = g.P.Part.set c.args.part in
    let v = c.loop-v.v in
    let written = c.loop-v.invariant in
    let room : c.args.self.now.len + length (marks v u s) ≤ length c.args.self.now.bytes.now = omega (arith, g.met.P.Part.range, length_marks_le v u s) in
    elim c.if-contains.branch [
      | then-contains w ↦
          rw (w.self-is) (appended_same (appended_more (marks v u s) c.args.self.now c.loop-v.self written room _ _ w.push.ensures)
          (marks_in v u s w.value_mark.result w.contains-then-contains.result w.if-contains.ensures w.value_mark.ensures w.contains-then-contains.ensures))
      | else-contains w ↦ rw (w.self-is) (appended_same written (marks_out v u s w.if-contains.ensures))
    ]
