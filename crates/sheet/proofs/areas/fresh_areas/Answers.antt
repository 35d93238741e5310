use Rattle.std.proofs.Common.{◌≡◌, ◌+◌, ◌*◌, ◌^◌, ◌∙◌, arith}
use native.Mathlib.Nat.{zero-mod}
use Rattle.sheet.proofs.Memory.{fresh_is}
use Rattle.sheet.specs.Bench.{work_cubes}
use Rattle.sheet.proofs.areas.fresh_areas.Goals as goal

pub returns : goal.returns
returns g c =
    let none = c.make-none.result in
    let p = c.args.p in
    let void = c.make-none.ensures.value ∙ zero-mod (2 ^ g.P.Part.MOST) in
    let cubes : 1 + c.saturating_sub.result * 64 ≡ work_cubes p = omega (arith, c.saturating_sub.ensures) in
    fresh_is g.P.Part.set none void c.blank-blank.result c.blank-blank.ensures p (1 + c.saturating_sub.result * 64) cubes
    (record {
      universe = c.in_ok-universe.universe;
      table = c.in_ok-table.table;
      rows = c.in_ok-rows.rows;
      off = c.in_ok-off.off;
      solution = c.in_ok-solution.solution;
      cards = c.in_ok-cards.cards;
      work = c.in_ok-work.work;
      numbers = c.in_ok-numbers.numbers;
    })
    c.in_ok-universe.ensures c.in_ok-table.ensures c.in_ok-rows.ensures c.in_ok-off.ensures
    c.in_ok-solution.ensures c.in_ok-cards.ensures c.in_ok-work.ensures c.in_ok-numbers.ensures
