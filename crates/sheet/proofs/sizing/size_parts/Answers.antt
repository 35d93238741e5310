use Rattle.std.proofs.Common.{◌≡◌, ℕ, List, [], ◌++◌, Ok, Err, string_bytes, append-nil, sym, refl, ap, ◌∙◌, ap₂, subst, rules}
use Rattle.std.proofs.lemmas.Result.{err_from_is_err_and}
use Rattle.sheet.specs.Bench.{Step, sizing, begins}
use Rattle.sheet.specs.Lines.{obeyed, after_step, lines_from}
use Rattle.sheet.specs.Views.{Ends}
use Rattle.sheet.proofs.Steps.{lines_unread, lines_read, lines_on, lines_stop}
use Rattle.sheet.proofs.sizing.size_parts.Goals as goal

pub loop-command-init : goal.loop-command-init
loop-command-init g c =
    let p = c.args.progress.now in
    ap₂ (λ (a : List ℕ) (n : ℕ). string_bytes p.lines ++ lines_from p.end (sizing g.P.Part.MOST a n) p.rest.now) c.new-sizes.ensures.all c.new-sizes.ensures.p

pub returns-in_err-command : goal.returns-in_err-command
returns-in_err-command g c =
    let p = c.loop-command.progress in
    let unread = lines_unread p.end (sizing g.P.Part.MOST c.loop-command.sizes.all c.loop-command.sizes.p) p.rest.now c.in_err-command.field-0.0 c.next.new.self.at (search rules) c.next.ensures.at in
    let e = err_from_is_err_and c.from_residual.result c.from_residual.ensures.1 in
    rw (e.1, e.2) (ap₂ (λ (a b : List ℕ). a ++ b) c.next.ensures.lines (sym unread) ∙ c.loop-command.invariant)

pub returns-in_err-command-2 : goal.returns-in_err-command-2
returns-in_err-command-2 g c =
    let p = c.loop-command.progress in
    let after = c.next.new.self in
    let s = sizing g.P.Part.MOST c.loop-command.sizes.all c.loop-command.sizes.p in
    let command = c.in-Some.command in
    let read = lines_read p.end s p.rest.now command after.at after.rest.now (search rules) c.next.ensures.at (search rules) in
    let all = ap₂ (λ (a b : List ℕ). a ++ b) c.next.ensures.lines (sym read) ∙ c.loop-command.invariant in
    let f = c.in_err-command-2.field-0.0 in
    let step : ◌≡◌ {A = Step} (Err f) (obeyed s command) = search rules in
    let e = err_from_is_err_and c.from_residual-in_err-command-2.result c.from_residual-in_err-command-2.ensures.1 in
    rw (e.1, e.2) (lines_stop p.end after.at after.rest.now (obeyed s command) f (string_bytes after.lines) _ step all)

pub loop-command-preserved : goal.loop-command-preserved
loop-command-preserved g c =
    let p = c.loop-command.progress in
    let after = c.next.new.self in
    let s = sizing g.P.Part.MOST c.loop-command.sizes.all c.loop-command.sizes.p in
    let t = sizing g.P.Part.MOST c.obey.new.self.all c.obey.new.self.p in
    let out = string_bytes after.lines in
    let command = c.in-Some.command in
    let read = lines_read p.end s p.rest.now command after.at after.rest.now (search rules) c.next.ensures.at (search rules) in
    let all = ap₂ (λ (a b : List ℕ). a ++ b) c.next.ensures.lines (sym read) ∙ c.loop-command.invariant in
    let step : ◌≡◌ {A = Step} (Ok (t, [])) (obeyed s command) = search rules in
    lines_on p.end after.at after.rest.now (obeyed s command) t [] out out _ after.end after.rest.now step (sym (append-nil out)) c.next.ensures.end refl all

pub returns-in-Some-2 : goal.returns-in-Some-2
returns-in-Some-2 g c =
    let p = c.loop-command.progress in
    let after = c.next.new.self in
    let s = sizing g.P.Part.MOST c.loop-command.sizes.all c.loop-command.sizes.p in
    let out = string_bytes after.lines in
    let command = c.in-Some.command in
    let read = lines_read p.end s p.rest.now command after.at after.rest.now (search rules) c.next.ensures.at (search rules) in
    let all = ap₂ (λ (a b : List ℕ). a ++ b) c.next.ensures.lines (sym read) ∙ c.loop-command.invariant in
    let begun = begins g.P.Part.MOST c.obey.new.self.all c.obey.new.self.p c.in-Some-2.command in
    let step : begun ≡ obeyed s command = search rules in
    let moved = ap (λ e. out ++ after_step (λ t. lines_from e t after.rest.now) after.at begun) c.next.ensures.end ∙ ap (λ r. out ++ after_step (λ t. lines_from p.end t after.rest.now) after.at r) step ∙ all in
    subst (λ l. Ends c.fill_table.result c.fill_table.new.progress l) moved c.fill_table.ensures
