use Rattle.std.proofs.Common.{rules, tests}
use Rattle.std.proofs.lemmas.Iterator.{YieldsList-from_slice, YieldsList-from_zip}
use Rattle.std.proofs.lemmas.Iterator.Consumers.{YieldsList-at, YieldsList-from_enumerate}
use Rattle.std.proofs.lemmas.Iterator.Search.{all_from_yields_List}
use Rattle.growth.proofs.Missed.{passes, beside_all}
use Rattle.growth.proofs.apart.meets_beside.Goals as goal

pub returns : goal.returns
returns g c =
    let pairs = YieldsList-from_zip {s = c.zip.result} (YieldsList-from_slice c.args.f.now cc) (YieldsList-from_slice c.args.r.now cc) in
    let numbered = YieldsList-from_enumerate {s = c.enumerate.result} (YieldsList-at c.enumerate.ensures.source pairs) cc in
    rw (beside_all g.P.Part.set c.args.k c.args.f.now c.args.r.now) (all_from_yields_List (passes g.P.Part.set c.args.k) c.all.new.self _ _ c.all.ensures.ran numbered (λ x b q k. search (rules, tests)))
