-- What is printed, one command at a time.
use Rattle.std.proofs.Common.{◌≡◌, ℕ, zero, suc, ◌-◌, ◌<◌, List, [], ◌∷◌, ◌++◌, length, drop, Some, None, Ok, Err, Option, Result, sym, refl, ap, ◌∙◌, ap₂, append_assoc, arith, length-drop}
use Rattle.std.specs.Result.{result_map_both}
use Rattle.faults.specs.Codes.{refusal_line}
use Rattle.faults.specs.declared.Cause.{Cause}
use Rattle.faults.specs.declared.Fault.{Fault}
use Rattle.commands.specs.declared.Command.{Command}
use Rattle.commands.specs.Commands.{reading, width}
use Rattle.sheet.specs.Bench.{State, Step, by_sheet}
use Rattle.sheet.specs.Lines.{obeyed, after_step, after_reading, printed, lines_from}

-- a command that is read is not the end, so what follows it is shorter
shorter : (bs : List ℕ) (c : Command) → reading bs ≡ Ok (Some c) → length (drop (width c) bs) < length bs
shorter [] c e = let z : ◌≡◌ {A = ℕ} 0 1 = cc in absurd (omega arith)
shorter (b ∷ bs) c e = simp length-drop (omega arith)

step_same : (f g : State → List ℕ) (at : ℕ) (r : Step) → ((t : State) → f t ≡ g t) → after_step f at r ≡ after_step g at r
step_same f g at (Ok r) h = ap (λ l. r.1 ++ l) (h r.0)
step_same f g at (Err e) h = refl

reading-same :
    (f g : Command → State → List ℕ) (at : ℕ) (s : State) (r : Result (Option Command) Cause) → ((c : Command) (t : State) → r ≡ Ok (Some c) → f c t ≡ g c t)
    → after_reading f at s r ≡ after_reading g at s r
reading-same f g at s (Ok (Some c)) h = step_same (f c) (g c) at (obeyed s c) (λ t. h c t refl)
reading-same f g at s (Ok None) h = refl
reading-same f g at s (Err cause) h = refl

-- any number above that of the bytes is enough
enough : (n m end : ℕ) (s : State) (bs : List ℕ) → length bs < n → length bs < m → printed n end s bs ≡ printed m end s bs
enough zero m end s bs h k = absurd (omega arith)
enough (suc n) zero end s bs h k = absurd (omega arith)
enough (suc n) (suc m) end s bs h k =
    reading-same _ _ (end - length bs) s (reading bs)
    (λ c t e. let l = shorter bs c e in enough n m end t (drop (width c) bs) (omega arith) (omega arith))

-- what is printed for a command at an offset, and for the bytes behind it
abbrev pub lines_of_command : ℕ → State → ℕ → List ℕ → Command → List ℕ
lines_of_command end s at rest c = after_step (λ t. lines_from end t rest) at (obeyed s c)

-- what was read, from what the reader answers
command_read : (r : Result (Option Command) Cause) (o : Option Command) → Ok o ≡ result_map_both (λ o. o) by_sheet r → r ≡ Ok o
command_read (Ok o) p e = cc
command_read (Err cause) p e = cc

cause_read : (r : Result (Option Command) Cause) (f : Fault) → Err f ≡ result_map_both (λ o. o) by_sheet r → (cause : Cause) × (r ≡ Err cause) × (f ≡ by_sheet cause)
cause_read (Ok o) f e = absurd (cc)
cause_read (Err cause) f e = (cause, refl, cc)

-- and what is printed from there on, with the offset and the bytes behind
module _ (end : ℕ) (s : State) (bs : List ℕ) where
  pub lines_unread : (f : Fault) (at : ℕ) → Err f ≡ result_map_both (λ o. o) by_sheet (reading bs) → at ≡ end - length bs → lines_from end s bs ≡ refusal_line f at
  lines_unread f at e h =
      let c = cause_read (reading bs) f e in
      ap (after_reading (λ c t. printed (length bs) end t (drop (width c) bs)) (end - length bs) s) c.1
      ∙ ap₂ refusal_line (sym c.2) (sym h)

  pub lines_read : (c : Command) (at : ℕ) (rest : List ℕ) → Ok (Some c) ≡ result_map_both (λ o. o) by_sheet (reading bs) → at ≡ end - length bs → rest ≡ drop (width c) bs
      → lines_from end s bs ≡ lines_of_command end s at rest c
  lines_read c at rest e h k =
      let r = command_read (reading bs) (Some c) e in
      let l = shorter bs c r in
      ap (after_reading (λ c t. printed (length bs) end t (drop (width c) bs)) (end - length bs) s) r
      ∙ step_same (λ t. printed (length bs) end t (drop (width c) bs)) (λ t. lines_from end t (drop (width c) bs)) (end - length bs) (obeyed s c)
      (λ t. enough (length bs) (suc (length (drop (width c) bs))) end t (drop (width c) bs) l (omega arith))
      ∙ ap₂ (λ (a : ℕ) (xs : List ℕ). after_step (λ t. lines_from end t xs) a (obeyed s c)) (sym h) (sym k)

-- what is printed after a command that was obeyed
pub lines_on :
    (end at : ℕ) (rest : List ℕ) (r : Step) (t : State) (line out next all : List ℕ) (last : ℕ) (left : List ℕ) → Ok (t, line) ≡ r → next ≡ out ++ line
    → last ≡ end → left ≡ rest → out ++ after_step (λ t. lines_from end t rest) at r ≡ all → next ++ lines_from last t left ≡ all
lines_on end at rest r t line out next all last left e n k l h =
    ap₂ (λ (a : ℕ) (b : List ℕ). next ++ lines_from a t b) k l
    ∙ ap (λ l. l ++ lines_from end t rest) n ∙ append_assoc out line (lines_from end t rest) ∙ ap (λ r. out ++ after_step (λ t. lines_from end t rest) at r) e ∙ h

-- where the command was refused
pub lines_stop : (end at : ℕ) (rest : List ℕ) (r : Step) (f : Fault) (out all : List ℕ) → Err f ≡ r → out ++ after_step (λ t. lines_from end t rest) at r ≡ all → out ++ refusal_line f at ≡ all
lines_stop end at rest r f out all e h = ap (λ r. out ++ after_step (λ t. lines_from end t rest) at r) e ∙ h
