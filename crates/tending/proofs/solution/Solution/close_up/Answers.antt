use Rattle.std.proofs.Common.{◌≡◌, ◌+◌, ◌<◌, ◌≤◌, true, false, map, length, get_or, set, sym, refl, ap, ◌∙◌, ap₂, inl, arith}
use Rattle.std.proofs.lemmas.List.{take_all}
use Rattle.cubes.specs.Cubes.{covers}
use Rattle.moves.specs.Items.{Item, no_item}
use Rattle.tending.specs.Items.{stays, spared_but}
use Rattle.tending.specs.Solutions.{items, cube_left}
use Rattle.tending.proofs.Places.{length_items, get_or-items, take_items}
use Rattle.tending.proofs.Closing.{stays_here, stays_free, goes, Leads, kept_more, kept_less, leads_moved, leads_more, leads_less}
use Rattle.tending.proofs.Steps.{no_step, both_steps, no_behind, both_behind}
use Rattle.tending.proofs.solution.Solution.close_up.Goals as goal
use Rattle.tending.proofs.solution.Solution.close_up.Goals.{then-i-at, then-i-at-via-then-i-at, then-i-at-via-else-i-at+then-not-covers, then-i-at-2, else-i-at-2, else-i-at+else-not-covers}

pub loop-i-init : goal.loop-i-init
loop-i-init g c =
    let S = c.args.self.now in
    let s = g.P.Part.set in
    record {
      areas = no_step S;
      behind = no_behind S;
      n = refl;
      kept = (refl, refl, omega arith);
      leads = (inl (omega arith, refl), ap (λ (x : Item). x.cube) (get_or-items S.p S.n c.args.at (map s S.cubes.now) S.cards.now c.requires), omega (arith, length_items S.p S.n (map s S.cubes.now) S.cards.now));
    }

pub loop-i-preserved : goal.loop-i-preserved
loop-i-preserved g c =
    let s = g.P.Part.set in
    let S = c.args.self.now in
    let N = c.loop-i.self in
    let at = c.args.at in
    let i = c.loop-i.i in
    let k = c.loop-i.k in
    let lead = c.loop-i.lead in
    let G = cube_left s at S in
    let L = items s S in
    let M = items s N in
    let inv = c.loop-i.invariant in
    let x = get_or M i no_item in
    let size : length M ≡ N.n = length_items N.p N.n (map s N.cubes.now) N.cards.now in
    let a : i < N.n = omega (arith, c.loop-i-test.true, inv.n) in
    let in-M : i < length M = omega arith in
    let in_L : i < length L = omega (arith, c.loop-i-test.true, length_items S.p S.n (map s S.cubes.now) S.cards.now) in
    let far : lead < N.n = omega (arith, size, inv.leads.2) in
    let big : cube_left s lead N ≡ G = sym (ap (λ (y : Item). y.cube) (get_or-items N.p N.n lead (map s N.cubes.now) N.cards.now far)) ∙ inv.leads.1 in
    let here : cube_left s i N ≡ x.cube = sym (ap (λ (y : Item). y.cube) (get_or-items N.p N.n i (map s N.cubes.now) N.cards.now a)) in
    let test : covers (cube_left s lead N) (cube_left s i N) ≡ covers G x.cube = ap₂ covers big here in
    elim c.if-i-at.branch [
      | then-i-at w ↦
          let t : stays G at i x.cube ≡ true = elim w.then-i-at.branch [
            | then-i-at-via-then-i-at v ↦ stays_here G at i x.cube v.if-i-at.true
            | then-i-at-via-else-i-at+then-not-covers v ↦ stays_free G at i x.cube (sym test ∙ sym v.covers.ensures ∙ v.if-not-covers.true)
          ] in
          let leads : Leads G at (set M k x) w.if-i-at-2.lead (k + 1) (i + 1) = elim w.if-i-at-2.branch [
            | then-i-at-2 v ↦ rw v.lead-is (leads_moved G at M lead k i inv.kept.2 in-M inv.leads v.if-i-at-2.true)
            | else-i-at-2 v ↦ rw v.lead-is (leads_more G at M lead k i inv.kept.2 in-M inv.leads v.if-i-at-2.false)
          ] in
          rw (w.self-is, w.k-is, w.lead-is) (record {
            areas = both_steps S N w.move_item.new.self inv.areas w.move_item.ensures.areas;
            behind = both_behind S N w.move_item.new.self inv.areas inv.behind w.move_item.ensures.behind;
            n = w.move_item.ensures.n ∙ inv.n;
            kept = rw w.move_item.ensures.items (kept_more G at L M k i in_L in-M inv.kept t);
            leads = rw w.move_item.ensures.items leads;
          })
      | else-i-at+else-not-covers w ↦
          let t : stays G at i x.cube ≡ false = goes G at i x.cube w.if-i-at.false (sym test ∙ sym w.covers.ensures ∙ w.if-not-covers.false) in
          rw (w.self-is, w.k-is, w.lead-is) (record {
            areas = inv.areas;
            behind = inv.behind;
            n = inv.n;
            kept = kept_less G at L M k i in_L in-M inv.kept t;
            leads = leads_less G at M lead k i inv.kept.2 in-M inv.leads w.if-i-at.false;
          })
    ]

pub returns-clause-items : goal.returns-clause-items
returns-clause-items g c =
    let s = g.P.Part.set in
    let S = c.args.self.now in
    let N = c.loop-i.self in
    let k = c.loop-i.k in
    let L = items s S in
    let le = c.loop-i.invariant.kept.2 in
    let all : length L ≤ c.loop-i.i = omega (arith, length_items S.p S.n (map s S.cubes.now) S.cards.now) in
    let h : k ≤ N.n = omega (arith, le, c.loop-i.invariant.n, c.loop-i.auto.i-end) in
    sym (take_items N.p N.n k (map s N.cubes.now) N.cards.now h) ∙ c.loop-i.invariant.kept.0 ∙ ap (spared_but (cube_left s c.args.at S) c.args.at) (take_all c.loop-i.i L all)
