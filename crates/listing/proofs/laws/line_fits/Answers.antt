use Rattle.listing.proofs.Texts.{line_fits}
use Rattle.listing.proofs.laws.line_fits.Goals as goal

pub returns : goal.returns
returns c = line_fits
