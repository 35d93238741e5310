use Rattle.std.proofs.Common.{rules}
use Rattle.parts.proofs.Shown.{is_made}
use Rattle.parts.proofs.WordPart.make.Goals as goal

pub returns : goal.returns
returns c = is_made 64 _ _ (search rules)
