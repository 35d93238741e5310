use Rattle.std.proofs.Common.{rules}
use Rattle.parts.proofs.Shown.{is_emptied}
use Rattle.parts.proofs.WordPart.is_empty.Goals as goal

pub returns : goal.returns
returns c = is_emptied _ _ (search rules)
