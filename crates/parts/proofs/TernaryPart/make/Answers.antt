use Rattle.std.proofs.Common.{rules}
use Rattle.parts.proofs.Shown.{is_made}
use Rattle.parts.proofs.TernaryPart.make.Goals as goal

pub returns-in-0 : goal.returns-in-0
returns-in-0 c = is_made 2 _ _ (search rules)

pub returns-in-1 : goal.returns-in-1
returns-in-1 c = is_made 2 _ _ (search rules)

pub returns-in-2 : goal.returns-in-2
returns-in-2 c = is_made 2 _ _ (search rules)

pub returns-in_default : goal.returns-in_default
returns-in_default c = is_made 2 _ _ (search rules)
