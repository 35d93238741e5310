use Rattle.std.proofs.Common.{◌≡◌, map, take, Err, sym}
use Rattle.table.specs.Filling.{add_verdict, made_row}
use Rattle.session.proofs.adding.add.Goals as goal

pub returns-in-Err : goal.returns-in-Err
returns-in-Err g c =
    let s = g.P.Part.set in
    let t = c.args.t in
    let v : add_verdict t.p t.rows c.args.kind (made_row g.P.Part.MOST (take t.p c.args.words.now)) (map s c.args.universe.now) (map s c.args.table.now) c.args.rows.now ≡ Err c.in-Err.cause = sym c.in-Err.ensures.answer in
    record {
      answer = rw (v, c.by.ensures);
      sets = rw v c.in-Err.ensures.sets;
      cards = rw v c.in-Err.ensures.cards;
      before = c.in-Err.ensures.before;
      behind = c.in-Err.ensures.behind;
    }
