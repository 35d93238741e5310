-- Number, name and places of each refusal, the word for each layer, and the line that is printed.
use Rattle.std.specs.Prelude.{ℕ, Bool, true, false, List, ◌++◌, codes, decimal}
use Rattle.faults.specs.declared.Fault.{Fault}
use Rattle.faults.specs.declared.Layer.{Layer}
use Rattle.faults.specs.declared.Layer.TheVariants.{Sheet, Table, Engine}
use Rattle.faults.specs.declared.Kind.{Kind}
use Rattle.faults.specs.declared.Kind.TheVariants.{On, Dc}
use Rattle.faults.specs.declared.State.{State}
use Rattle.faults.specs.declared.State.TheVariants.{Start, Sizing, Filling, Opened}
use Rattle.faults.specs.declared.Cause.{Cause}
use Rattle.faults.specs.declared.Cause.TheVariants.{Long, Unknown, Cut, Misplaced, Operand, Shape, Limit, Area, Empty, Outside, Repeat, Full, Off, Foreign}

abbrev pub number : Cause → ℕ
number Long = 1
number (Unknown command) = 2
number (Cut command present) = 3
number (Misplaced command state) = 4
number (Operand value) = 5
number (Shape first second) = 6
number (Limit rounds) = 7
number (Area area needed) = 8
number (Empty part) = 9
number (Outside part value) = 10
number (Repeat row kind) = 11
number (Full rows) = 12
number (Off most) = 13
number (Foreign cube off) = 14

abbrev pub name : Cause → List ℕ
name Long = codes "long"
name (Unknown command) = codes "unknown"
name (Cut command present) = codes "cut"
name (Misplaced command state) = codes "misplaced"
name (Operand value) = codes "operand"
name (Shape first second) = codes "shape"
name (Limit rounds) = codes "limit"
name (Area area needed) = codes "area"
name (Empty part) = codes "empty"
name (Outside part value) = codes "outside"
name (Repeat row kind) = codes "repeat"
name (Full rows) = codes "full"
name (Off most) = codes "off"
name (Foreign cube off) = codes "foreign"

-- ON is 0, DC is 1
abbrev pub kind_number : Kind → ℕ
kind_number On = 0
kind_number Dc = 1

abbrev pub is_on_kind : Kind → Bool
is_on_kind On = true
is_on_kind Dc = false

abbrev pub state_number : State → ℕ
state_number Start = 0
state_number Sizing = 1
state_number Filling = 2
state_number Opened = 3

abbrev pub first_place : Cause → ℕ
first_place Long = 0
first_place (Unknown command) = command
first_place (Cut command present) = command
first_place (Misplaced command state) = command
first_place (Operand value) = value
first_place (Shape first second) = first
first_place (Limit rounds) = rounds
first_place (Area area needed) = area
first_place (Empty part) = part
first_place (Outside part value) = part
first_place (Repeat row kind) = row
first_place (Full rows) = rows
first_place (Off most) = most
first_place (Foreign cube off) = cube

abbrev pub second_place : Cause → ℕ
second_place Long = 0
second_place (Unknown command) = 0
second_place (Cut command present) = present
second_place (Misplaced command state) = state
second_place (Operand value) = 0
second_place (Shape first second) = second
second_place (Limit rounds) = 0
second_place (Area area needed) = needed
second_place (Empty part) = 0
second_place (Outside part value) = value
second_place (Repeat row kind) = kind
second_place (Full rows) = 0
second_place (Off most) = 0
second_place (Foreign cube off) = off

abbrev pub layer_word : Layer → List ℕ
layer_word Sheet = codes "sheet"
layer_word Table = codes "table"
layer_word Engine = codes "engine"

-- `refused`, number, name, layer, `at`, the number handed in, both places, each after a space, and a newline
abbrev pub line_of : ℕ → List ℕ → List ℕ → ℕ → ℕ → ℕ → List ℕ
line_of n word layer at first second =
    (codes "refused " ++ (decimal n ++ (codes " " ++ (word ++ (codes " " ++ (layer ++ (codes " at " ++ (decimal at ++ (codes " "
    ++ (decimal first ++ (codes " " ++ decimal second))))))))))) ++ codes "\n"

abbrev pub refusal_line : Fault → ℕ → List ℕ
refusal_line f at = line_of (number f.cause) (name f.cause) (layer_word f.layer) at (first_place f.cause) (second_place f.cause)
