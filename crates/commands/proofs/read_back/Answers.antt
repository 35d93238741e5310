use Rattle.std.proofs.Common.{[], ◌∷◌, Some, Ok, refl, ap, ◌∙◌}
use Rattle.commands.specs.declared.Command.TheVariants.{Kind, Size, Value, On, Dc, Open}
use Rattle.commands.specs.Commands.{in_bytes, ReadBack}
use Rattle.commands.proofs.Format.{back, read_again}
use Rattle.commands.proofs.read_back.Goals as goal

each : ReadBack
each (Kind kind) after = back 75 _ refl (kind ∷ []) after refl
each (Size size) after = back 80 _ refl (size ∷ []) after refl
each (Value part word) after =
    back 86 _ refl (part ∷ in_bytes 8 word) after refl ∙ ap (λ w. Ok (Some (Value part w))) (read_again 7 word)
each On after = back 70 _ refl [] after refl
each Dc after = back 68 _ refl [] after refl
each Open after = back 79 _ refl [] after refl

pub returns : goal.returns
returns c = each
