use Rattle.std.proofs.Common.{◌≡◌, ◌%◌, ◌^◌, arith}
use Rattle.parts.proofs.Shown.{is_outside}
use Rattle.parts.proofs.Words.{minus_word}
use Rattle.parts.proofs.WordPart.outside.Goals as goal

pub returns : goal.returns
returns c =
    let a = c.args.self.0 in
    let b = c.args.other.0 in
    let ea : a % 2 ^ 64 ≡ a = omega arith in
    let eb : b % 2 ^ 64 ≡ b = omega arith in
    is_outside _ _ _ (rw (ea, eb) (omega (arith, minus_word 64 a b (omega arith) (omega arith))))
