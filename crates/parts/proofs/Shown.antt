-- What a method of a kind of part has to show, from the number that its set is.
use Rattle.std.proofs.Common.{◌≡◌, ℕ, ◌%◌, ◌^◌, ◌<◌, Bool, eqb, sym, ◌∙◌, arith}
use lib.Bits.{bit_and, bit_or}
use lib.Count.{ones}
use Rattle.std.proofs.lemmas.Bool.Decides.{nat_tests}
use Rattle.parts.specs.Sets.{minus}
use Rattle.parts.specs.Kinds.{Made, Common, Joined, Outside, Emptied, Counted}
use Rattle.parts.proofs.Bits.{has-and, has-or, has-minus, has-none, has_low, member, members_ones}

pub is_made : (most word r : ℕ) → r ≡ word % 2 ^ most → Made most word r
is_made most word r e = record { value = e; values = λ v. rw e (has_low most word v) }

pub is_common : (a b r : ℕ) → r ≡ bit_and a b → Common a b r
is_common a b r e = record { value = e; values = λ v. rw e (has-and a b v) }

pub is_joined : (a b r : ℕ) → r ≡ bit_or a b → Joined a b r
is_joined a b r e = record { value = e; values = λ v. rw e (has-or a b v) }

pub is_outside : (a b r : ℕ) → r ≡ minus a b → Outside a b r
is_outside a b r e = record { value = e; values = λ v. rw e (has-minus a b v) }

pub is_emptied : (a : ℕ) (r : Bool) → r ≡ eqb a 0 → Emptied a r
is_emptied a r e = record {
  value = e;
  none = λ h v. let z : a ≡ 0 = grind (arith, nat_tests) in rw z (has-none v);
  some = λ h. member a (grind (arith, nat_tests));
}

pub is_counted : (most a r : ℕ) → a < 2 ^ most → r ≡ ones a → Counted most a r
is_counted most a r h e = record { value = e; values = e ∙ sym (members_ones most a h) }
