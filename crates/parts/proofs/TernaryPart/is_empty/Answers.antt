use Rattle.std.proofs.Common.{rules}
use Rattle.parts.proofs.Shown.{is_emptied}
use Rattle.parts.proofs.TernaryPart.is_empty.Goals as goal

pub returns-in-Void : goal.returns-in-Void
returns-in-Void c = is_emptied _ _ (search rules)

pub returns-in_default : goal.returns-in_default
returns-in_default c = is_emptied _ _ (search rules)
