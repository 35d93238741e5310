use Rattle.parts.proofs.Words.{whole_word}
use Rattle.parts.proofs.whole.Goals as goal

pub returns : goal.returns
returns c = whole_word c.args.size c.requires
