use Rattle.std.proofs.Common.{rules, ℕ, ◌%◌, ◌^◌, map, length, sym, ◌∙◌}
use Rattle.std.proofs.lemmas.List.{length-map}
use Rattle.std.proofs.lemmas.Bool.{ne_eqb}
use Rattle.std.proofs.lemmas.Iterator.{YieldsList-from_slice, YieldsList-from_zip}
use Rattle.std.proofs.lemmas.Iterator.Search.{all_from_yields_List}
use Rattle.cubes.proofs.Pairs.{same_length}
use Rattle.table.proofs.Verdicts.{same_all}
use Rattle.table.proofs.row.same_as_row.Goals as goal

pub returns-then-cube-words : goal.returns-then-cube-words
returns-then-cube-words g c =
    let pairs = YieldsList-from_zip {s = c.zip.result} (YieldsList-from_slice c.args.cube.now cc) (YieldsList-from_slice c.args.words.now cc) in
    rw (same_all g.P.Part.set (λ w. w % 2 ^ g.P.Part.MOST) c.args.cube.now c.args.words.now c.if-cube-words.true)
    (all_from_yields_List _ c.all.new.self _ _ c.all.ensures.ran pairs (λ x b q k. search rules))

pub returns-else-cube-words : goal.returns-else-cube-words
returns-else-cube-words g c =
    let f : ℕ → ℕ = λ w. w % 2 ^ g.P.Part.MOST in
    ne_eqb (length c.args.cube.now) (length c.args.words.now) c.if-cube-words.false
    ∙ sym (same_length (map g.P.Part.set c.args.cube.now) (map f c.args.words.now) (λ e. c.if-cube-words.false (simp length-map at e)))
