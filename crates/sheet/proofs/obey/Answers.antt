use Rattle.std.proofs.Common.{◌≡◌, ℕ, ◌-◌, ◌++◌, List, [], length, drop, replicate, Some, Ok, Err, string_bytes, sym, ap, ◌∙◌, ap₂, subst, rules}
use Rattle.std.specs.Result.{result_map_both}
use Rattle.std.proofs.lemmas.Result.{err_from_is_err_and}
use Rattle.commands.specs.declared.Command.{Command}
use Rattle.commands.specs.Commands.{reading, width}
use Rattle.sheet.specs.Bench.{State, Step, start, sizing, at_start, by_sheet}
use Rattle.sheet.specs.Lines.{after_step, lines_from}
use Rattle.sheet.specs.Views.{Ends}
use Rattle.sheet.proofs.Steps.{lines_unread, lines_read, lines_stop}
use Rattle.sheet.proofs.obey.Goals as goal

-- after the kind
kind_said :
    (end next at : ℕ) (bs rest out lines : List ℕ) (c : Command) (s : State) → Ok (Some c) ≡ result_map_both (λ o. o) by_sheet (reading bs) → at ≡ end - length bs
    → rest ≡ drop (width c) bs → next ≡ end → lines ≡ out → ◌≡◌ {A = Step} (Ok (s, [])) (at_start c) → lines ++ lines_from next s rest ≡ out ++ lines_from end start bs
kind_said end next at bs rest out lines c s e h k n l step =
    ap₂ (λ (l : List ℕ) (e : ℕ). l ++ lines_from e s rest) l n
    ∙ ap (λ r. out ++ after_step (λ t. lines_from end t rest) at r) step
    ∙ ap (λ l. out ++ l) (sym (lines_read end start bs c at rest e h k))

pub returns-in-Word : goal.returns-in-Word
returns-in-Word c =
    let before = c.args.progress.now in
    let after = c.next.new.self in
    let same = kind_said before.end after.end after.at before.rest.now after.rest.now (string_bytes before.lines) (string_bytes after.lines) c.in-Some.command
    (sizing 64 (replicate 16 0) 0) (search rules) c.next.ensures.at (search rules) c.next.ensures.end c.next.ensures.lines (search rules) in
    subst (λ l. Ends c.size_parts.result c.size_parts.new.progress l) same c.size_parts.ensures

pub returns-in-Ternary : goal.returns-in-Ternary
returns-in-Ternary c =
    let before = c.args.progress.now in
    let after = c.next.new.self in
    let same = kind_said before.end after.end after.at before.rest.now after.rest.now (string_bytes before.lines) (string_bytes after.lines) c.in-Some.command
    (sizing 2 (replicate 16 0) 0) (search rules) c.next.ensures.at (search rules) c.next.ensures.end c.next.ensures.lines (search rules) in
    subst (λ l. Ends c.size_parts-in-Ternary.result c.size_parts-in-Ternary.new.progress l) same c.size_parts-in-Ternary.ensures

pub returns-in_err-command : goal.returns-in_err-command
returns-in_err-command c =
    let before = c.args.progress.now in
    let unread = lines_unread before.end start before.rest.now c.in_err-command.field-0.0 c.next.new.self.at (search rules) c.next.ensures.at in
    let e = err_from_is_err_and c.from_residual.result c.from_residual.ensures.1 in
    rw (e.1, e.2) (ap₂ (λ (a b : List ℕ). a ++ b) c.next.ensures.lines (sym unread))

pub returns-in_err-choose : goal.returns-in_err-choose
returns-in_err-choose c =
    let before = c.args.progress.now in
    let after = c.next.new.self in
    let command = c.in-Some.command in
    let read = lines_read before.end start before.rest.now command after.at after.rest.now (search rules) c.next.ensures.at (search rules) in
    let f = c.in_err-choose.field-0.0 in
    let step : ◌≡◌ {A = Step} (Err f) (at_start command) = search rules in
    let e = err_from_is_err_and c.from_residual-in_err-choose.result c.from_residual-in_err-choose.ensures.1 in
    rw (e.1, e.2) (lines_stop before.end after.at after.rest.now (at_start command) f (string_bytes after.lines) _ step (ap₂ (λ (a b : List ℕ). a ++ b) c.next.ensures.lines (sym read)))
