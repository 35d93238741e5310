use Rattle.std.proofs.Common.{refl, rules, arith}
use Rattle.listing.proofs.Placed.{wrote_one}
use Rattle.listing.proofs.Line.push.Goals as goal

pub returns : goal.returns
returns c = record {
  wrote = wrote_one c.args.self.now.len c.args.self.now.bytes.now _ c.args.byte (omega arith) refl;
  lent = search rules;
}
