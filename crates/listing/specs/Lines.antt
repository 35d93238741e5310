-- A lent line of bytes that is written from its start on.
use Rattle.std.specs.Prelude.{◌≡◌, ℕ, List}
use Rattle.listing.specs.declared.Line.{Line}
use Rattle.listing.specs.Text.{Wrote}

-- the text was written behind what was there, into the same bytes
pub record Appended (text : List ℕ) (before after : Line) : Type 0 where
  pub wrote : Wrote before.len text before.bytes.now after.bytes.now after.len
  pub lent : after.bytes.ghost_name ≡ before.bytes.ghost_name
