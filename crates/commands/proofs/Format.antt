-- Facts on `reading`, and on numbers in bytes.
use Rattle.std.proofs.Common.{◌≡◌, ℕ, zero, suc, ◌%◌, ◌^◌, false, ltb, List, ◌∷◌, ◌++◌, length, Some, Ok, refl, ap, ◌∙◌, div-add-mod', arith, length-append}
use Rattle.std.proofs.lemmas.List.{take_at}
use Rattle.std.proofs.lemmas.Bool.{le-ltb}
use Rattle.commands.specs.Commands.{big_endian, in_bytes, Form, form, read_by, reading}

length-in_bytes : (k n : ℕ) → length (in_bytes k n) ≡ k
length-in_bytes zero n = refl
length-in_bytes (suc k) n = ap suc (length-in_bytes k (n % 256 ^ k))

-- a number is what its bytes write
pub read_again : (k n : ℕ) → big_endian (in_bytes (suc k) n) ≡ n
read_again zero n = omega arith
read_again (suc k) n = rw (length-in_bytes (suc k) (n % 256 ^ suc k), read_again k (n % 256 ^ suc k)) (div-add-mod' n (256 ^ suc k))

-- a command of form f that is written is read
pub back : (b : ℕ) (f : Form) → form b ≡ Some f → (os after : List ℕ) → length os ≡ f.takes → reading (b ∷ (os ++ after)) ≡ Ok (Some (f.makes os))
back b f k os after e =
    let l : ltb (length (os ++ after)) f.takes ≡ false = le-ltb _ _ (omega (arith, length-append os after)) in
    ap (λ o. read_by o b (os ++ after)) k ∙ rw (l, take_at os after f.takes e)
