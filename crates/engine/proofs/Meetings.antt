-- The first cube that meets the off list, and the first off cube that it meets, one after the other.
use Rattle.std.proofs.Common.{◌≡◌, ℕ, suc, ◌+◌, ◌<◌, ◌≤◌, Bool, true, false, cond, ◌||◌, ltb, List, [], ◌∷◌, map, length, get_or, drop, Some, None, Ok, Err, Option, sym, refl, ap, ◌∙◌, ⊎_elim, add-one, arith}
use Rattle.std.proofs.lemmas.Bool.{cases_lt, lt-ltb, le-ltb}
use Rattle.std.specs.List.{position_or_len}
use Rattle.std.proofs.lemmas.List.{drop_more, drop_all}
use Rattle.faults.specs.declared.Cause.TheVariants.{Foreign}
use Rattle.cubes.specs.Areas.{cubes}
use Rattle.cubes.specs.Cubes.{Cube, Cover, meets}
use Rattle.cubes.proofs.Flat.{map-cubes}
use Rattle.moves.specs.Sound.{Apart}
use Rattle.moves.specs.Widen.{touches}
use Rattle.table.specs.Filling.{Verdict}
use Rattle.engine.specs.Foreign.{first_met, foreign_by, foreign_verdict}

-- ---- the first off cube

module _ {X : Type 0} (s : X → ℕ) (f : Cube) where
  abbrev pub met : List X → Bool
  met c = meets f (map s c)

  -- its number, where the first of them has number j
  abbrev found : ℕ → List (List X) → Option ℕ
  found j D = cond (ltb (position_or_len met D) (length D)) (Some (j + position_or_len met D)) None

  found_is : (j : ℕ) (D : List (List X)) → first_met j f (map (map s) D) ≡ found j D
  found_is j [] = refl
  found_is j (d ∷ D) = by (met d) refl (found_is (suc j) D)
    where
      by : (t : Bool) → met d ≡ t → first_met (suc j) f (map (map s) D) ≡ found (suc j) D → cond (met d) (Some j) (first_met (suc j) f (map (map s) D)) ≡ found j (d ∷ D)
      by true e h = let l : ltb 0 (suc (length D)) ≡ true = lt-ltb 0 (suc (length D)) (omega arith) in let z : j + 0 ≡ j = omega arith in rw (e, l, z)
      by false e h =
          let k = position_or_len met D in
          let l : ltb (1 + k) (suc (length D)) ≡ ltb k (length D) =
          ⊎_elim (λ (b : k < length D). lt-ltb (1 + k) (suc (length D)) (omega arith) ∙ sym (lt-ltb k (length D) b))
          (λ (b : length D ≤ k). le-ltb (1 + k) (suc (length D)) (omega arith) ∙ sym (le-ltb k (length D) b)) (cases_lt k (length D)) in
          let z : j + (1 + k) ≡ suc j + k = omega arith in
          rw (e, l, z) h

  pub met_is : (p n : ℕ) (xs : List X) → let D = cubes p n xs in first_met 0 f (cubes p n (map s xs)) ≡ cond (ltb (position_or_len met D) (length D)) (Some (position_or_len met D)) None
  met_is p n xs = ap (first_met 0 f) (sym (map-cubes s p n xs)) ∙ found_is 0 (cubes p n xs) ∙ (let z : 0 + position_or_len met (cubes p n xs) ≡ position_or_len met (cubes p n xs) = omega arith in rw z)

-- ---- the cubes from number i on

module _ (R C : Cover) (o : Verdict) (i : ℕ) (inv : foreign_verdict i R (drop i C) ≡ o) where
  foreign_step : i < length C → foreign_verdict i R (drop i C) ≡ foreign_by i (first_met 0 (get_or C i []) R) (foreign_verdict (i + 1) R (drop (i + 1) C))
  foreign_step h = rw (drop_more C i [] h, add-one)

  pub foreign_here : (j : ℕ) → i < length C → first_met 0 (get_or C i []) R ≡ Some j → Err (Foreign i j) ≡ o
  foreign_here j h m = sym (foreign_step h ∙ rw m) ∙ inv

  pub foreign_later : i < length C → first_met 0 (get_or C i []) R ≡ None → foreign_verdict (i + 1) R (drop (i + 1) C) ≡ o
  foreign_later h m = sym (foreign_step h ∙ rw m) ∙ inv

  pub foreign_none : length C ≤ i → Ok tt ≡ o
  foreign_none h = sym (ap (foreign_verdict i R) (drop_all i C h)) ∙ inv

-- ---- where none is named, none meets

unmet : (j : ℕ) (f : Cube) (R : Cover) → first_met j f R ≡ None → touches f R ≡ false
unmet j f [] e = refl
unmet j f (r ∷ R) e = by (meets f r) e (unmet (suc j) f R)
  where
    by : (t : Bool) → cond t (Some j) (first_met (suc j) f R) ≡ None → (first_met (suc j) f R ≡ None → touches f R ≡ false) → (t || touches f R) ≡ false
    by true e h = absurd (let z : ◌≡◌ {A = ℕ} 0 1 = cc in omega arith)
    by false e h = h e

pub none_foreign : (i : ℕ) (R C : Cover) → foreign_verdict i R C ≡ Ok tt → Apart R C
none_foreign i R [] e = tt
none_foreign i R (c ∷ C) e = by (first_met 0 c R) refl e (none_foreign (suc i) R C)
  where
    by : (o : Option ℕ) → first_met 0 c R ≡ o → foreign_by i o (foreign_verdict (suc i) R C) ≡ Ok tt → (foreign_verdict (suc i) R C ≡ Ok tt → Apart R C)
        → (touches c R ≡ false) × Apart R C
    by None m e h = (unmet 0 c R m, h e)
    by (Some j) m e h = absurd (let z : ◌≡◌ {A = ℕ} 0 1 = cc in omega arith)
