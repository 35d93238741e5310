-- What each call answers, and what the areas that it may change hold afterwards, from the session's numbers and what the areas hold before:
-- p parts, so many rows, off cubes and solution cubes.
use Rattle.std.specs.Prelude.{ℕ, ◌/◌, List, length, take, Ok, Err, Result}
use Rattle.faults.specs.declared.Cause.{Cause}
use Rattle.cubes.specs.Areas.{cubes}
use Rattle.cubes.specs.Cubes.{Cover}
use Rattle.moves.specs.Calls.{expand}
use Rattle.orders.specs.Rules.{Rule}
use Rattle.table.specs.declared.card.Card.{Card}
use Rattle.table.specs.Cards.{area_length}
use Rattle.table.specs.Filling.{Verdict, ◌then◌}
use Rattle.table.specs.declared.areas.Lengths.{Lengths}
use Rattle.engine.specs.Areas.{areas_verdict, settled, blanked}
use Rattle.engine.specs.Foreign.{foreign_verdict}

-- the cubes left or a refusal, and the solution with its cards
pub record Moved : Type 0 where
  pub answer : Result ℕ Cause
  pub solution : List ℕ
  pub cards : List Card

-- the list E is left of so many cubes, or all stays
abbrev pub moved_by : Verdict → ℕ → ℕ → Cover → List ℕ → List Card → Moved
moved_by (Ok x) p count E solution cards = record { answer = Ok (length E); solution = settled p count E solution; cards = blanked count cards }
moved_by (Err c) p count E solution cards = record { answer = Err c; solution = solution; cards = cards }

-- ---- Expand

abbrev pub expand_needs : ℕ → ℕ → ℕ → Lengths
expand_needs p offs count = record { universe = p; table = 0; off = offs; solution = count; work = 0; line = 0 }

abbrev pub expand_has : ℕ → List ℕ → List ℕ → List ℕ → List Card → Lengths
expand_has p us off solution cards =
    record { universe = length us; table = 0; off = length off / p; solution = area_length p (length solution) (length cards); work = 0; line = 0 }

abbrev pub expand_verdict : ℕ → ℕ → ℕ → List ℕ → List ℕ → List ℕ → List Card → Verdict
expand_verdict p offs count us off solution cards =
    areas_verdict (expand_has p us off solution cards) (expand_needs p offs count) then foreign_verdict 0 (cubes p offs off) (cubes p count solution)

-- under a rule, with p parts, off cubes and solution cubes; the areas of universe, off list, and solution with its cards
abbrev pub expand_call : Rule → ℕ → ℕ → ℕ → List ℕ → List ℕ → List ℕ → List Card → Moved
expand_call B p offs count us off solution cards =
    moved_by (expand_verdict p offs count us off solution cards) p count (expand B (take p us) (cubes p offs off) (cubes p count solution)) solution cards
