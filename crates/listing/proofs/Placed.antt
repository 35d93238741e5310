-- Bytes written into a line, one after another.
use Rattle.std.proofs.Common.{◌≡◌, ℕ, ◌+◌, ◌<◌, ◌≤◌, List, [], ◌∷◌, ◌++◌, length, take, drop, set, sym, refl, ap, ◌∙◌, add-one, arith}
use Rattle.std.proofs.lemmas.List.{append_assoc, append-nil, length-append, length-take-le, length_push, take_at, drop_at, drop-drop, set_split, take-append-drop}
use Rattle.cubes.specs.Areas.{overlay}
use Rattle.cubes.proofs.Flat.{length-overlay}
use Rattle.listing.specs.declared.Line.{Line}
use Rattle.listing.specs.Text.{placed, Wrote}
use Rattle.listing.specs.Lines.{Appended}

-- ---- after what was written from the start

overlay_more : (front zs xs : List ℕ) → overlay (front ++ zs) (overlay front xs) ≡ overlay (front ++ zs) xs
overlay_more front zs xs =
    let past : (l : List ℕ) → drop (length (front ++ zs)) l ≡ drop (length zs) (drop (length front) l) = λ l. ap (λ n. drop n l) (length-append front zs) ∙ sym (drop-drop (length zs) (length front) l) in
    ap (λ l. (front ++ zs) ++ l)
    (past (overlay front xs) ∙ ap (drop (length zs)) (drop_at front (drop (length front) xs) (length front) refl) ∙ sym (past xs))

overlay-placed : (front zs xs : List ℕ) (end : ℕ) → end ≡ length front → placed end zs (overlay front xs) ≡ overlay (front ++ zs) xs
overlay-placed front zs xs end e =
    ap (λ l. overlay (l ++ zs) (overlay front xs)) (take_at front (drop (length front) xs) end (sym e)) ∙ overlay_more front zs xs

-- ---- nothing, or one byte

module _ (at : ℕ) (xs : List ℕ) (fits : at ≤ length xs) where
  placed-none : placed at [] xs ≡ xs
  placed-none =
      ap (λ l. overlay l xs) (append-nil (take at xs))
      ∙ ap (λ n. take at xs ++ drop n xs) (length-take-le at xs fits)
      ∙ take-append-drop at xs

  placed_one : at < length xs → (b : ℕ) → set xs at b ≡ placed at (b ∷ []) xs
  placed_one h b =
      let n : length (take at xs ++ b ∷ []) ≡ at + 1 = length_push (take at xs) b ∙ ap (λ n. n + 1) (length-take-le at xs fits) in
      set_split xs at b h ∙ sym (append_assoc (take at xs) (b ∷ []) _) ∙ ap (λ n. (take at xs ++ b ∷ []) ++ drop n xs) (sym (n ∙ add-one at))

pub wrote_none : (at : ℕ) (xs ys : List ℕ) → at ≤ length xs → ys ≡ [] → Wrote at ys xs xs at
wrote_none at xs ys h e = rw e (record { line = sym (placed-none at xs h); place = omega arith })

pub wrote_one : (at : ℕ) (xs ys : List ℕ) (b : ℕ) → at < length xs → ys ≡ b ∷ [] → Wrote at ys xs (set xs at b) (at + 1)
wrote_one at xs ys b h e = rw e (record { line = placed_one at xs (omega arith) h b; place = refl })

-- ---- more, after what was written

module _ (at : ℕ) (ys xs after : List ℕ) (mid : ℕ) (w : Wrote at ys xs after mid) (fits : mid ≤ length xs) where
  front : length (take at xs ++ ys) ≡ mid
  front = length-append (take at xs) ys ∙ ap (λ n. n + length ys) (length-take-le at xs (omega (arith, w.place))) ∙ sym w.place

  pub length_wrote : length after ≡ length xs
  length_wrote = ap length w.line ∙ length-overlay (take at xs ++ ys) xs (omega (arith, front))

  pub wrote_more : (zs last : List ℕ) (end : ℕ) → Wrote mid zs after last end → Wrote at (ys ++ zs) xs last end
  wrote_more zs last end v = record {
    line =
        v.line ∙ ap (placed mid zs) w.line
        ∙ overlay-placed (take at xs ++ ys) zs xs mid (sym front)
        ∙ ap (λ l. overlay l xs) (append_assoc (take at xs) ys zs);
    place = omega (arith, v.place, w.place, length-append ys zs);
  }

-- ---- the same of a line that is written on

pub appended_none : (l : Line) → l.len ≤ length l.bytes.now → Appended [] l l
appended_none l h = record { wrote = wrote_none l.len l.bytes.now [] h refl; lent = refl }

module _ (ys : List ℕ) (l m : Line) (w : Appended ys l m) (fits : l.len + length ys ≤ length l.bytes.now) where
  placed-mid : m.len ≤ length l.bytes.now
  placed-mid = omega (arith, w.wrote.place)

  pub length_appended : length m.bytes.now ≡ length l.bytes.now
  length_appended = length_wrote l.len ys l.bytes.now m.bytes.now m.len w.wrote placed-mid

  pub appended_more : (zs : List ℕ) (n : Line) → Appended zs m n → Appended (ys ++ zs) l n
  appended_more zs n v = record {
    wrote = wrote_more l.len ys l.bytes.now m.bytes.now m.len w.wrote placed-mid zs n.bytes.now n.len v.wrote;
    lent = v.lent ∙ w.lent;
  }

pub appended_same : {ys zs : List ℕ} {l m : Line} → Appended ys l m → zs ≡ ys → Appended zs l m
appended_same w e = rw e w
