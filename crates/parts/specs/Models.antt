-- The set that each kind of part stands for.
use Rattle.std.specs.Prelude.{ℕ, ◌%◌, ◌^◌}
use Rattle.parts.specs.declared.Word.{Word}
use Rattle.parts.specs.declared.Ternary.{Ternary}
use Rattle.parts.specs.declared.Ternary.TheVariants.{Zero, One, Both, Void}

-- Bit v stands for the value v. (A word has 64 bits; the remainder says so for every number.)
abbrev pub word_set : Word → ℕ
word_set w = w.0 % 2 ^ 64

abbrev pub ternary_set : Ternary → ℕ
ternary_set Zero = 1
ternary_set One = 2
ternary_set Both = 3
ternary_set Void = 0
