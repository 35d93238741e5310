use Rattle.std.proofs.Common.{◌≡◌, ℕ, ◌+◌, ◌*◌, ◌-◌, ◌<◌, ◌≤◌, List, [], ◌∷◌, ◌++◌, map, length, get_or, sym, refl, ap, ◌∙◌, rules, arith}
use Rattle.listing.specs.declared.Line.{Line}
use Rattle.listing.specs.Text.{gap, part_text, cube_text, cube_line}
use Rattle.listing.specs.Lines.{Appended}
use Rattle.listing.proofs.Placed.{appended_more, appended_same, length_appended}
use Rattle.listing.proofs.Texts.{front, front_more, front-all, length_front_le, length_gap_le}
use Rattle.listing.proofs.write_cube.Goals as goal

-- the first n parts are written
module _ {X : Type 0} (set : X → ℕ) (most : ℕ) (small : most ≤ 64) (xs ys : List X) (same : length xs ≡ length ys) (few : length ys ≤ 16)
    (l m : Line) (empty : l.len ≡ 0) (fits : 1040 ≤ length l.bytes.now) (n : ℕ) (w : Appended (front set most xs ys n) l m) where
  room : n ≤ length ys → (m.len ≤ 65 * n - 1) × (length m.bytes.now ≡ length l.bytes.now)
  room h =
      let short = length_front_le set most xs ys n small h in
      (omega (arith, w.wrote.place), length_appended (front set most xs ys n) l m w (omega arith))

  -- and one more, behind its gap
  module _ (h : n < length ys) (a : Line) (v : Appended (gap most n) m a) where
    led : Appended (front set most xs ys n ++ gap most n) l a
    led =
        let short = length_front_le set most xs ys n small (omega arith) in
        appended_more (front set most xs ys n) l m w (omega arith) (gap most n) a v

    room_led : a.len + 64 ≤ length a.bytes.now
    room_led =
        let r = room (omega arith) in
        let g = length_gap_le most n in
        omega (arith, v.wrote.place, length_appended (gap most n) m a v (omega (arith, r)))

    more : (x y : X) (b : Line) → x ≡ get_or xs n x → y ≡ get_or ys n y → Appended (part_text most (set x) (set y)) a b → Appended (front set most xs ys (n + 1)) l b
    more x y b e f u =
        let short = length_front_le set most xs ys n small (omega arith) in
        let g = length_gap_le most n in
        appended_same (appended_more (front set most xs ys n ++ gap most n) l a led (omega (arith, led.wrote.place, w.wrote.place, v.wrote.place)) (part_text most (set x) (set y)) b u)
        (front_more set most xs ys n x y (omega arith) h e f)

  -- all parts, and the newline
  whole : n ≡ length ys → (b : Line) → Appended (10 ∷ []) m b → Appended (cube_line most (map set xs) (map set ys)) l b
  whole e b v =
      let short = length_front_le set most xs ys n small (omega arith) in
      let all = front-all set most xs ys n (omega arith) (omega arith) in
      appended_more (cube_text most (map set xs) (map set ys)) l m (appended_same w (sym all)) (omega (arith, ap length all)) (10 ∷ []) b v

pub gap-requires : goal.gap-requires
gap-requires g c =
    let U = c.args.universe.now in
    let C = c.args.cube.now in
    omega (arith, room g.P.Part.set g.P.Part.MOST g.met.P.Part.range.1 U C c.requires.parts c.requires.few _ c.loop-i.text refl c.requires.room c.loop-i.i c.loop-i.invariant (omega arith))

pub part-requires : goal.part-requires
part-requires g c =
    room_led g.P.Part.set g.P.Part.MOST g.met.P.Part.range.1 c.args.universe.now c.args.cube.now c.requires.parts c.requires.few _ c.loop-i.text refl c.requires.room c.loop-i.i c.loop-i.invariant (omega arith) c.gap.new.self c.gap.ensures

pub loop-i-preserved : goal.loop-i-preserved
loop-i-preserved g c =
    more g.P.Part.set g.P.Part.MOST g.met.P.Part.range.1 c.args.universe.now c.args.cube.now c.requires.parts c.requires.few _ c.loop-i.text refl c.requires.room c.loop-i.i c.loop-i.invariant (omega arith) c.gap.new.self c.gap.ensures
    c.index-universe-i.result c.index-cube-i.result c.part.new.self c.index-universe-i.is c.index-cube-i.is c.part.ensures

pub push-requires : goal.push-requires
push-requires g c =
    omega (arith, room g.P.Part.set g.P.Part.MOST g.met.P.Part.range.1 c.args.universe.now c.args.cube.now c.requires.parts c.requires.few _ c.loop-i.text refl c.requires.room c.loop-i.i c.loop-i.invariant (omega arith))

pub returns : goal.returns
returns g c =
    let s = g.P.Part.set in
    let most = g.P.Part.MOST in
    let U = c.args.universe.now in
    let C = c.args.cube.now in
    let n = c.loop-i.i in
    let e : n ≡ length C = omega arith in
    let r = room s most g.met.P.Part.range.1 U C c.requires.parts c.requires.few _ c.loop-i.text refl c.requires.room n c.loop-i.invariant (omega arith) in
    let w = whole s most g.met.P.Part.range.1 U C c.requires.parts c.requires.few _ c.loop-i.text refl c.requires.room n c.loop-i.invariant e c.push.new.self c.push.ensures in
    let name = w.lent in
    record {
      text = search rules ∙ w.wrote.line;
      size = omega (arith, w.wrote.place);
      bound = omega (arith, r, c.push.ensures.wrote.place);
    }
