use Rattle.std.proofs.Common.{rules}
use Rattle.parts.proofs.Shown.{is_counted}
use Rattle.parts.proofs.WordPart.count.Goals as goal

pub returns : goal.returns
returns c = is_counted 64 _ _ (search rules) (search rules)
