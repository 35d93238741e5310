use Rattle.listing.proofs.Texts.{all_right}
use Rattle.listing.proofs.laws.cases_are_right.Goals as goal

pub returns : goal.returns
returns c = all_right
