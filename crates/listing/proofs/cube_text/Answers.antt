use Rattle.std.proofs.Common.{◌≡◌, ℕ, ◌-◌, List, [], ◌∷◌, ◌++◌, map, length, take, drop, IsUtf8, sym, ap, ◌∙◌, subst, arith}
use Rattle.std.proofs.lemmas.List.{append_assoc, length_push, take_at}
use Rattle.std.proofs.lemmas.Str.{IsUtf8-from_ascii}
use Rattle.cubes.specs.Areas.{overlay}
use Rattle.listing.specs.Text.{cube_text}
use Rattle.listing.proofs.Texts.{text_ascii}
use Rattle.listing.proofs.cube_text.Goals as goal

-- the line without its newline
cut : (text xs last : List ℕ) (size : ℕ) → last ≡ overlay (text ++ 10 ∷ []) xs → size ≡ length (text ++ 10 ∷ []) → take (size - 1 - 0) last ≡ text
cut text xs last size e f =
    let n : length text ≡ size - 1 - 0 = omega (arith, f, length_push text 10) in
    ap (take (size - 1 - 0)) (e ∙ append_assoc text (10 ∷ []) (drop (length (text ++ 10 ∷ [])) xs)) ∙ take_at text _ (size - 1 - 0) n

pub text_of-requires : goal.text_of-requires
text_of-requires g c =
    let s = g.P.Part.set in
    let U = map s c.args.universe.now in
    let C = map s c.args.cube.now in
    let t = cube_text g.P.Part.MOST U C in
    subst IsUtf8 (sym (cut t _ c.write_cube-size.new.line c.write_cube-size.result c.write_cube-size.ensures.text c.write_cube-size.ensures.size))
    (IsUtf8-from_ascii t (text_ascii g.P.Part.MOST U C))
