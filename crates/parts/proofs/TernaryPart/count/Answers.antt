use Rattle.std.proofs.Common.{rules}
use lib.Count.{ones}
use Rattle.parts.proofs.Shown.{is_counted}
use Rattle.parts.proofs.TernaryPart.count.Goals as goal

pub returns-in-Zero : goal.returns-in-Zero
unfolding ones
returns-in-Zero c = is_counted 2 _ _ (search rules) (search rules)

pub returns-in-Both : goal.returns-in-Both
unfolding ones
returns-in-Both c = is_counted 2 _ _ (search rules) (search rules)
