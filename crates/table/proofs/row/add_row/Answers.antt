use Rattle.std.proofs.Common.{◌≡◌, ◌+◌, ◌*◌, ◌++◌, map, length, take, drop, set, sym, ap, ◌∙◌, arith}
use Rattle.std.proofs.lemmas.List.{length-map, drop-drop}
use Rattle.std.proofs.lemmas.List.Edits.{paste_all}
use Rattle.table.specs.Filling.{made_row}
use Rattle.table.proofs.Verdicts.{add_room}
use Rattle.table.proofs.row.add_row.Goals as goal

pub overflow_mul-rows : goal.overflow_mul-rows
overflow_mul-rows g c =
    let r = add_room c.args.p c.args.rows c.args.kind (made_row g.P.Part.MOST c.args.words.now) (map g.P.Part.set c.args.universe.now) (map g.P.Part.set c.args.table.now) c.args.cards.now c.requires.some (sym c.in_ok-check_add.ensures) in
    let n = length-map c.args.table.now g.P.Part.set in
    omega arith

pub write_parts-requires : goal.write_parts-requires
write_parts-requires g c =
    let r = add_room c.args.p c.args.rows c.args.kind (made_row g.P.Part.MOST c.args.words.now) (map g.P.Part.set c.args.universe.now) (map g.P.Part.set c.args.table.now) c.args.cards.now c.requires.some (sym c.in_ok-check_add.ensures) in
    let n = length-map c.args.table.now g.P.Part.set in
    omega arith

pub returns : goal.returns
returns g c =
    let s = g.P.Part.set in
    let p = c.args.p in
    let at = c.args.rows * p in
    let A = made_row g.P.Part.MOST c.args.words.now in
    let d = map s c.args.table.now in
    let n : length c.args.words.now ≡ length A = sym (length-map c.args.words.now _) in
    let e = c.requires.size in
    record {
      answer = c.in_ok-check_add.ensures;
      sets = c.write_parts.ensures.sets ∙ paste_all d at A (length c.args.words.now) n
          ∙ ap (λ k. take at d ++ (A ++ drop (at + k) d)) e ∙ ap (λ D. take at d ++ (A ++ D)) (sym (drop-drop p at d));
      before = c.write_parts.ensures.before;
      behind = rw e at c.write_parts.ensures.behind;
      cards = ap (set c.args.cards.now c.args.rows) c.of_row.ensures;
    }
