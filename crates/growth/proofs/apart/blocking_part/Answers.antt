use Rattle.std.proofs.Common.{◌≡◌, ◌+◌, map, None, sym, ◌∙◌, subst, rules, tests, arith}
use Rattle.std.proofs.lemmas.Iterator.{YieldsList-from_slice, YieldsList-from_zip}
use Rattle.std.proofs.lemmas.Iterator.Search.{position_from_yields_List}
use Rattle.growth.specs.Missed.{Once}
use Rattle.growth.proofs.Missed.{shares_none, only-none, only-some, only_once, behind-set}
use Rattle.std.proofs.lemmas.List.{length-map}
use Rattle.growth.proofs.apart.blocking_part.Goals as goal

pub returns-in_err-k-clause-value : goal.returns-in_err-k-clause-value
returns-in_err-k-clause-value g c =
    let pairs = YieldsList-from_zip {s = c.zip.result} (YieldsList-from_slice c.args.f.now cc) (YieldsList-from_slice c.args.r.now cc) in
    let first = position_from_yields_List (shares_none g.P.Part.set) c.position.new.self _ c.position.result c.position.ensures.ran pairs (λ x b q k. search (rules, tests)) in
    let none = only-none g.P.Part.set c.args.f.now c.args.r.now c.requires c.position.result first c.in_err-k.was in
    let n : c.from_residual.result ≡ None = search rules in
    n ∙ sym none

pub returns-clause-value : goal.returns-clause-value
returns-clause-value g c =
    let s = g.P.Part.set in
    let k = c.in_ok-k.k in
    let pairs = YieldsList-from_zip {s = c.zip.result} (YieldsList-from_slice c.args.f.now cc) (YieldsList-from_slice c.args.r.now cc) in
    let first = position_from_yields_List (shares_none g.P.Part.set) c.position.new.self _ c.position.result c.position.ensures.ran pairs (λ x b q k. search (rules, tests)) in
    let some = only-some g.P.Part.set c.args.f.now c.args.r.now c.requires c.position.result first c.in_ok-k.k c.in_ok-k.was in
    let e : 0 + k ≡ k = omega arith in
    rw (some, e, ← behind-set s (k + 1) c.args.f.now, ← behind-set s (k + 1) c.args.r.now) (search rules)

pub returns-in_err-k-clause-once : goal.returns-in_err-k-clause-once
returns-in_err-k-clause-once g c =
    subst (Once (map g.P.Part.set c.args.f.now) (map g.P.Part.set c.args.r.now)) (sym (returns-in_err-k-clause-value g c)) (only_once _ _ (simp length-map c.requires))

pub returns-clause-once : goal.returns-clause-once
returns-clause-once g c =
    subst (Once (map g.P.Part.set c.args.f.now) (map g.P.Part.set c.args.r.now)) (sym (returns-clause-value g c)) (only_once _ _ (simp length-map c.requires))
