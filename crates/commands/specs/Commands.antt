-- The bytes of a sheet: a row of commands, each a letter with its operand bytes.
use Rattle.std.specs.Prelude.{◌≡◌, ℕ, zero, suc, ◌+◌, ◌*◌, ◌/◌, ◌%◌, ◌^◌, cond, List, [], ◌∷◌, ◌++◌, length, take, drop, Some, None, Ok, Err, Option, Result, ◌==◌, nat_lt, slice_index}
use Rattle.std.specs.Borrow.{Bor}
use Rattle.faults.specs.declared.Cause.{Cause}
use Rattle.faults.specs.declared.Cause.TheVariants.{Unknown, Cut}
use Rattle.commands.specs.declared.Command.{Command}
use Rattle.commands.specs.declared.Command.TheVariants.{Kind, Size, Value, On, Dc, Open}

-- the number that bytes write, the highest first
abbrev pub big_endian : List ℕ → ℕ
big_endian [] = 0
big_endian (b ∷ bs) = b * 256 ^ length bs + big_endian bs

-- so many bytes that write a number, the highest first
abbrev pub in_bytes : ℕ → ℕ → List ℕ
in_bytes zero n = []
in_bytes (suc k) n = n / 256 ^ k ∷ in_bytes k (n % 256 ^ k)

-- the letter of a command: K, P, V, F, D or O
abbrev pub letter : Command → ℕ
letter (Kind kind) = 75
letter (Size size) = 80
letter (Value part word) = 86
letter On = 70
letter Dc = 68
letter Open = 79

-- its operand bytes
abbrev pub operands : Command → List ℕ
operands (Kind kind) = kind ∷ []
operands (Size size) = size ∷ []
operands (Value part word) = part ∷ in_bytes 8 word
operands On = []
operands Dc = []
operands Open = []

-- all its bytes
abbrev pub written : Command → List ℕ
written command = letter command ∷ operands command

-- how many these are
abbrev pub width : Command → ℕ
width command = 1 + length (operands command)

-- what a letter says: how many operand bytes there are, and which command they make
pub record Form : Type 0 where
  pub takes : ℕ
  pub makes : List ℕ → Command

-- the letters K, P, V, F, D and O, as a table
abbrev pub form : ℕ → Option Form
form b =
    cond (b == 75) (Some (record { takes = 1; makes = λ os. Kind (slice_index os 0) }))
    (cond (b == 80) (Some (record { takes = 1; makes = λ os. Size (slice_index os 0) }))
    (cond (b == 86) (Some (record { takes = 9; makes = λ os. Value (slice_index os 0) (big_endian (drop 1 os)) }))
    (cond (b == 70) (Some (record { takes = 0; makes = λ os. On }))
    (cond (b == 68) (Some (record { takes = 0; makes = λ os. Dc }))
    (cond (b == 79) (Some (record { takes = 0; makes = λ os. Open }))
    None)))))

-- a byte and the bytes after it: no letter, operand bytes missing, or a command
abbrev pub read_by : Option Form → ℕ → List ℕ → Result (Option Command) Cause
read_by None b after = Err (Unknown b)
read_by (Some f) b after =
    cond (nat_lt (length after) f.takes) (Err (Cut b (length after))) (Ok (Some (f.makes (take f.takes after))))

-- the command that bytes begin with
abbrev pub reading : List ℕ → Result (Option Command) Cause
reading [] = Ok None
reading (b ∷ after) = read_by (form b) b after

-- what was read, without the rest
abbrev pub found : Result (Option (Command × Bor (List ℕ))) Cause → Result (Option Command) Cause
found (Ok None) = Ok None
found (Ok (Some x)) = Ok (Some x.0)
found (Err cause) = Err cause

-- P of the command and the rest, where a command was read
abbrev pub AtCommand : Result (Option (Command × Bor (List ℕ))) Cause → (Command → List ℕ → Type 0) → Type 0
AtCommand (Ok None) P = Unit {0}
AtCommand (Ok (Some x)) P = P x.0 x.1.now
AtCommand (Err cause) P = Unit {0}

-- a command that is written is read, whatever follows it
abbrev pub ReadBack : Type 0
ReadBack = (command : Command) (after : List ℕ) → reading (written command ++ after) ≡ Ok (Some command)
