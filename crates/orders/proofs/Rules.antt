-- The rules keep the law of an order.
use Rattle.std.proofs.Common.{sym, arith}
use Rattle.std.proofs.lemmas.Bool.Decides.{nat_tests}
use Rattle.orders.specs.declared.Direction.{Direction}
use Rattle.orders.specs.declared.Direction.TheVariants.{Along, Against}
use Rattle.orders.specs.Rules.{Rule, Ordered, place_rule, light_rule, reversed, directed}

pub place_ordered : Ordered place_rule
place_ordered = record { one = λ w p v q n. grind (arith, nat_tests); carries = λ w p v q u r a b. grind (arith, nat_tests) }

pub light_ordered : Ordered light_rule
light_ordered = record { one = λ w p v q n. grind (arith, nat_tests); carries = λ w p v q u r a b. grind (arith, nat_tests) }

pub reversed_ordered : (B : Rule) → Ordered B → Ordered (reversed B)
reversed_ordered B h =
    record { one = λ w p v q n. h.one v q w p (λ e. n (sym e)); carries = λ w p v q u r a b. h.carries u r v q w p b a }

pub directed_ordered : (d : Direction) (B : Rule) → Ordered B → Ordered (directed d B)
directed_ordered Along B h = h
directed_ordered Against B h = reversed_ordered B h
