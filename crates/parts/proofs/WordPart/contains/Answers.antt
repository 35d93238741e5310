use Rattle.std.proofs.Common.{◌≡◌, ◌%◌, ◌^◌, arith}
use Rattle.std.proofs.lemmas.Bool.Decides.{nat_tests}
use Rattle.parts.proofs.Bits.{has_past}
use Rattle.parts.proofs.Words.{has_word}
use Rattle.parts.proofs.WordPart.contains.Goals as goal

pub returns-then-v-lt64 : goal.returns-then-v-lt64
returns-then-v-lt64 c =
    let e : c.args.self.0 % 2 ^ 64 ≡ c.args.self.0 = omega arith in
    rw e (grind (arith, nat_tests, has_word c.args.self.0 c.args.v))

pub returns-else-v-lt64 : goal.returns-else-v-lt64
returns-else-v-lt64 c =
    grind (arith, nat_tests, has_past 64 (c.args.self.0 % 2 ^ 64) c.args.v (omega arith) c.if-v-lt64.false)
