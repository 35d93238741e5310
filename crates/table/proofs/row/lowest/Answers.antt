use Rattle.std.proofs.Common.{◌≡◌, ap, arith, pow_mono}
use lib.Count.{count_trailing_zeros}
use Rattle.table.proofs.Lowest.{lowest_is}
use Rattle.table.proofs.row.lowest.Goals as goal

pub returns : goal.returns
returns g c =
    let s = g.P.Part.set c.args.values in
    let v : count_trailing_zeros 64 c.word_of.result ≡ count_trailing_zeros 64 s = ap (count_trailing_zeros 64) c.word_of.ensures in
    record {
      value = v;
      least = λ h. rw v (lowest_is 64 s (omega (arith, g.met.P.Part.below c.args.values, pow_mono g.met.P.Part.range.1)) h);
    }
