use Rattle.std.proofs.Common.{rules, tests}
use Rattle.std.proofs.lemmas.Iterator.{YieldsList-from_slice, YieldsList-from_zip}
use Rattle.std.proofs.lemmas.Iterator.Search.{all_from_yields_List}
use Rattle.parts.specs.Models.{word_set}
use Rattle.growth.proofs.Weighed.{within_all}
use Rattle.growth.proofs.weigh.within_words.Goals as goal

pub returns : goal.returns
returns g c =
    let s = g.P.Part.set in
    let pairs = YieldsList-from_zip {s = c.zip.result} (YieldsList-from_slice c.args.cube.now cc) (YieldsList-from_slice c.args.words.now cc) in
    rw (within_all s word_set g.P.Part.MOST g.met.P.Part.below c.args.cube.now c.args.words.now) (all_from_yields_List _ c.all.new.self _ _ c.all.ensures.ran pairs (λ x b q k. search (rules, tests)))
