use Rattle.std.proofs.Common.{◌≡◌, ℕ, List, ◌++◌, string_bytes, sym, ap, ◌∙◌, ap₂, rules}
use Rattle.std.proofs.lemmas.Result.{err_from_is_err_and}
use Rattle.sheet.specs.declared.progress.Progress.{Progress}
use Rattle.sheet.specs.Lines.{obeyed}
use Rattle.sheet.specs.Views.{memory, state, said_line}
use Rattle.sheet.proofs.Steps.{lines_of_command, lines_unread, lines_read, lines_on}
use Rattle.sheet.proofs.filling.run.Goals as goal
use Rattle.sheet.proofs.filling.run.Goals.{in-Some+in_ok-write, in_default}

-- the line of a command was added
record Said (line : List ℕ) (before after : Progress) : Type 0 where
  lines : string_bytes after.lines ≡ string_bytes before.lines ++ line
  end : after.end ≡ before.end
  rest : after.rest.now ≡ before.rest.now

pub returns-in_err-next-2 : goal.returns-in_err-next-2
returns-in_err-next-2 g c =
    let s = g.P.Part.set in
    let most = g.P.Part.MOST in
    let p = c.loop-next.progress in
    let q = c.match-tally.progress in
    let next = state most c.in_ok-next.next (memory s c.obey.new.areas) in
    let said : Said (said_line c.in_ok-next.tally) p q = elim c.match-tally.branch [
      | in-Some+in_ok-write w ↦ record { lines = search rules; end = search rules; rest = search rules }
      | in_default w ↦ record { lines = search rules; end = search rules; rest = search rules }
    ] in
    let on = lines_on p.end p.at p.rest.now (obeyed (state most c.loop-next.stage (memory s c.loop-next.areas)) c.loop-next.command) next (said_line c.in_ok-next.tally)
    (string_bytes p.lines) (string_bytes q.lines) _ q.end q.rest.now c.in_ok-next.ensures said.lines said.end said.rest c.loop-next.invariant in
    let f = c.in_err-next-2.field-0.0 in
    let unread = lines_unread q.end next q.rest.now f c.next.new.self.at (search rules) c.next.ensures.at in
    let e = err_from_is_err_and c.from_residual-in_err-next-2.result c.from_residual-in_err-next-2.ensures.1 in
    rw (e.1, e.2) (ap₂ (λ (a b : List ℕ). a ++ b) c.next.ensures.lines (sym unread) ∙ on)

pub loop-next-preserved : goal.loop-next-preserved
loop-next-preserved g c =
    let s = g.P.Part.set in
    let most = g.P.Part.MOST in
    let p = c.loop-next.progress in
    let q = c.match-tally.progress in
    let after = c.next.new.self in
    let next = state most c.in_ok-next.next (memory s c.obey.new.areas) in
    let said : Said (said_line c.in_ok-next.tally) p q = elim c.match-tally.branch [
      | in-Some+in_ok-write w ↦ record { lines = search rules; end = search rules; rest = search rules }
      | in_default w ↦ record { lines = search rules; end = search rules; rest = search rules }
    ] in
    let on = lines_on p.end p.at p.rest.now (obeyed (state most c.loop-next.stage (memory s c.loop-next.areas)) c.loop-next.command) next (said_line c.in_ok-next.tally)
    (string_bytes p.lines) (string_bytes q.lines) _ q.end q.rest.now c.in_ok-next.ensures said.lines said.end said.rest c.loop-next.invariant in
    let read = lines_read q.end next q.rest.now c.in-Some-2.next after.at after.rest.now (search rules) c.next.ensures.at (search rules) in
    ap₂ (λ (l : List ℕ) (e : ℕ). l ++ lines_of_command e next after.at after.rest.now c.in-Some-2.next) c.next.ensures.lines c.next.ensures.end
    ∙ ap (λ l. string_bytes q.lines ++ l) (sym read) ∙ on
