-- What Open leaves, in the subject's words.
use Rattle.std.proofs.Common.{◌≡◌, ℕ, zero, suc, ◌+◌, ◌-◌, ◌*◌, ◌≤◌, Bool, true, false, cond, leb, List, ◌∷◌, map, length, get_or, take, drop, replicate, Ok, Err, Result, sym, refl, ap, ◌∙◌, subst, ap₂, add-mul, one-mul, add-one, arith}
use Rattle.std.specs.List.{AllByRecursion}
use Rattle.std.proofs.lemmas.List.{length-take-le, length-drop, length-map, take_all, take-map, drop-map, drop_at}
use Rattle.std.proofs.lemmas.Bool.{leb-true}
use Rattle.cubes.specs.Areas.{cubes, flat, overlay}
use Rattle.cubes.specs.Cubes.{Cube, Cover, Wide, rest}
use Rattle.cubes.specs.Tables.{on_rows, all_rows}
use Rattle.cubes.proofs.Cuts.{rest_wide}
use Rattle.cubes.proofs.Flat.{cubes-overlay, wide_cubes, length-flat, map-overlay, map-flat}
use Rattle.cubes.proofs.Proved.{rest_exact, on_rows_lawful}
use Rattle.table.specs.declared.card.Card.{Card}
use Rattle.table.specs.Cards.{blank, is_on, rows_of, on_cubes, on_count, area_length}
use Rattle.table.specs.Filling.{Verdict, area_verdict}
use Rattle.table.specs.Opening.{open_verdict, off_most, off_list}
use Rattle.cubes.specs.declared.list.Cubes.{Cubes}
use Rattle.table.specs.Lists.{off_of, off_answer}
use Rattle.table.proofs.OnRows.{length-on_cubes}
use Rattle.table.proofs.Verdicts.{then_both, area_passed, fits_area}
use Rattle.faults.specs.declared.Cause.{Cause}
use Rattle.faults.specs.declared.Cause.TheVariants.{Off}
use Rattle.session.specs.Calls.{Opening, leaving, opening}
use Rattle.session.specs.Exact.{Exactly}
use Rattle.session.specs.States.{Filling, Opened, by_engine}
use Rattle.faults.specs.declared.Fault.{Fault}

-- the cubes of all rows are the cubes of the area
all_cubes : (p n : ℕ) (ts : List ℕ) (cs : List Card) → all_rows (rows_of p n ts cs) ≡ cubes p n ts
all_cubes p zero ts cs = refl
all_cubes p (suc n) ts cs = ap (λ C. take p ts ∷ C) (all_cubes p n (drop p ts) (drop 1 cs))

-- the ON rows are the cubes that Open copies
on_cubes_lem : (p n : ℕ) (ts : List ℕ) (cs : List Card) → on_cubes p n ts cs ≡ on_rows (rows_of p n ts cs)
on_cubes_lem p zero ts cs = refl
on_cubes_lem p (suc n) ts cs = ap (λ C. cond (is_on (get_or cs 0 blank)) (take p ts ∷ C) C) (on_cubes_lem p n (drop p ts) (drop 1 cs))

wide_either : {X : Type 0} (p : ℕ) (t : Bool) (c : List X) (C : List (List X)) → length c ≡ p → AllByRecursion (λ (d : List X). length d ≡ p) C → AllByRecursion (λ (d : List X). length d ≡ p) (cond t (c ∷ C) C)
wide_either p true c C e w = (e, w)
wide_either p false c C e w = w

wide_on : {X : Type 0} (p n : ℕ) (ts : List X) (cs : List Card) → n * p ≤ length ts → AllByRecursion (λ (d : List X). length d ≡ p) (on_cubes p n ts cs)
wide_on p zero ts cs h = tt
wide_on p (suc n) ts cs h =
    let e : suc n * p ≡ n * p + p = omega (arith, add-mul n 1 p, one-mul p, add-one n) in
    let l : n * p ≤ length (drop p ts) = simp length-drop (omega arith) in
    wide_either p (is_on (get_or cs 0 blank)) (take p ts) _ (length-take-le p ts (omega arith)) (wide_on p n (drop p ts) (drop 1 cs) l)

map_either : {X : Type 0} (s : X → ℕ) (t : Bool) (c : List X) (C : List (List X)) → map (map s) (cond t (c ∷ C) C) ≡ cond t (map s c ∷ map (map s) C) (map (map s) C)
map_either s true c C = refl
map_either s false c C = refl

map_on : {X : Type 0} (s : X → ℕ) (p n : ℕ) (ts : List X) (cs : List Card) → map (map s) (on_cubes p n ts cs) ≡ on_cubes p n (map s ts) cs
map_on s p zero ts cs = refl
map_on s p (suc n) ts cs =
    map_either s (is_on (get_or cs 0 blank)) (take p ts) (on_cubes p n (drop p ts) (drop 1 cs))
    ∙ ap₂ (λ (c : Cube) (C : Cover). cond (is_on (get_or cs 0 blank)) (c ∷ C) C) (sym (take-map s p ts))
    (map_on s p n (drop p ts) (drop 1 cs) ∙ ap (λ T. on_cubes p n T (drop 1 cs)) (sym (drop-map s p ts)))

-- what copying the ON rows leaves of the solution: its sets, and what stays
pub copied_sets : {X : Type 0} (s : X → ℕ) (p n : ℕ) (ts : List X) (cs : List Card) (S E : List X) → S ≡ overlay (flat (on_cubes p n ts cs)) E
    → map s S ≡ overlay (flat (on_cubes p n (map s ts) cs)) (map s E)
copied_sets s p n ts cs S E e =
    ap (map s) e ∙ map-overlay s (flat (on_cubes p n ts cs)) E ∙ ap (λ L. overlay L (map s E)) (map-flat s (on_cubes p n ts cs) ∙ ap flat (map_on s p n ts cs))

pub copied_stays : {X : Type 0} (p n on : ℕ) (ts : List X) (cs : List Card) (S E : List X) → n * p ≤ length ts → on ≡ on_count n cs → S ≡ overlay (flat (on_cubes p n ts cs)) E
    → drop (on * p) S ≡ drop (on * p) E
copied_stays p n on ts cs S E h o e =
    let l : length (flat (on_cubes p n ts cs)) ≡ on * p = length-flat p (on_cubes p n ts cs) (wide_on p n ts cs h) ∙ ap (λ k. k * p) (length-on_cubes p n ts cs ∙ sym o) in
    ap (drop (on * p)) e ∙ drop_at (flat (on_cubes p n ts cs)) (drop (length (flat (on_cubes p n ts cs))) E) (on * p) l ∙ ap (λ k. drop k E) l

-- what is left, area by area
pub leaving-same : (a : Result Opened (Filling × Fault)) (A A' B B' : List ℕ) (C C' : List Card) (D D' E E' : List ℕ)
    → A ≡ A' → B ≡ B' → C ≡ C' → D ≡ D' → E ≡ E' → leaving a A B C D E ≡ leaving a A' B' C' D' E'
leaving-same a A A' B B' C C' D D' E E' e f g h i = rw (e, f, g, h, i)

module _ (most p n : ℕ) (us ts : List ℕ) (rs : List Card) (off solution : List ℕ) (full : p ≤ length us) (fits : n * p ≤ length ts) where
  exactly : let L = off_list p n us ts in
      Exactly most p (take p us) (rows_of p n ts rs) (cubes p (length L) (overlay (flat L) off)) (cubes p (on_count n rs) (overlay (flat (on_cubes p n ts rs)) solution))
  exactly =
      let U = take p us in
      let T = rows_of p n ts rs in
      let L = off_list p n us ts in
      let size : length U ≡ p = length-take-le p us full in
      let same = all_cubes p n ts rs in
      let wide : Wide p L = subst (λ k. Wide k L) size (rest_wide U (cubes p n ts)) in
      let list : cubes p (length L) (overlay (flat L) off) ≡ rest U (all_rows T) = cubes-overlay p L off wide ∙ ap (rest U) (sym same) in
      let rows : Wide p (all_rows T) = subst (Wide p) (sym same) (wide_cubes p n ts fits) in
      let on : cubes p (on_count n rs) (overlay (flat (on_cubes p n ts rs)) solution) ≡ on_rows T =
      ap (λ k. cubes p k (overlay (flat (on_cubes p n ts rs)) solution)) (sym (length-on_cubes p n ts rs))
      ∙ cubes-overlay p (on_cubes p n ts rs) solution (wide_on p n ts rs fits) ∙ on_cubes_lem p n ts rs in
      record {
        off = λ v h. rw list (rest_exact p most U T v size rows h);
        on = on;
        lawful = rw on (on_rows_lawful p most U T);
      }

  pub exactly-at : (k m : ℕ) (O S : List ℕ) → let L = off_list p n us ts in
      k ≡ length L → m ≡ on_count n rs → O ≡ overlay (flat L) off → S ≡ overlay (flat (on_cubes p n ts rs)) solution
      → Exactly most p (take p us) (rows_of p n ts rs) (cubes p k O) (cubes p m S)
  exactly-at k m O S e f g h = rw (e, f, g, h) exactly

-- where the areas are long enough
pub open_room : (p n on us table solution work : ℕ) → open_verdict p n on us table solution work ≡ Ok tt
    → (p ≤ us) × (n ≤ table) × (on ≤ solution) × (1 + (p - 1) * n ≤ work)
open_room p n on us table solution work e =
    let (one, e2) = then_both (area_verdict 1 us p) _ e in
    let (two, e3) = then_both (area_verdict 2 table n) _ e2 in
    let (four, five) = then_both (area_verdict 4 solution on) (area_verdict 5 work (1 + (p - 1) * n)) e3 in
    (area_passed 1 us p one, area_passed 2 table n two, area_passed 4 solution on four, area_passed 5 work (1 + (p - 1) * n) five)

-- ---- what Open finds, and what it leaves

module _ {X : Type 0} (s : X → ℕ) (t : Filling) (us ts : List X) (rs : List Card) (off solution : List X) (cards : List Card) (work : List X) (numbers : List ℕ) (a b d : ℕ) (v : Verdict) (tableHas : a ≡ area_length t.p (length ts) (length rs)) (solutionHas : b ≡ area_length t.p (length solution) (length cards)) (workHas : d ≡ area_length t.p (length work) (length numbers)) (found : v ≡ open_verdict t.p t.rows (on_count t.rows rs) (length us) a b d) where
  abbrev made : Opening
  made = opening t (map s us) (map s ts) rs (map s off) (map s solution) cards (map s work) numbers

  abbrev list : Cover
  list = off_list t.p t.rows (map s us) (map s ts)

  verdict : open_verdict t.p t.rows (on_count t.rows rs) (length (map s us)) (area_length t.p (length (map s ts)) (length rs)) (area_length t.p (length (map s solution)) (length cards)) (area_length t.p (length (map s work)) (length numbers)) ≡ v
  verdict = simp length-map (cc)

  module _ (passed : v ≡ Ok tt) where
    room : (t.p ≤ length us) × (t.rows ≤ a) × (on_count t.rows rs ≤ b) × (1 + (t.p - 1) * t.rows ≤ d)
    room = open_room t.p t.rows (on_count t.rows rs) (length us) a b d (sym found ∙ passed)

    pub opened-room : 1 ≤ t.p → (t.p ≤ length us) × (t.rows * t.p ≤ length ts) × (t.rows ≤ length rs) × (on_count t.rows rs * t.p ≤ length solution) × (on_count t.rows rs ≤ length cards) × (1 + (t.p - 1) * t.rows ≤ area_length t.p (length work) (length numbers))
    opened-room h =
        let f = fits_area t.p (length ts) (length rs) t.rows h (omega (arith, room.1)) in
        let k = fits_area t.p (length solution) (length cards) (on_count t.rows rs) h (omega (arith, room.2)) in
        (room.0, f.0, f.1, k.0, k.1, omega (arith, room.3))

    pub leaves_full : leb (length list) (off_most t.p (length off)) ≡ false
        → leaving (Err (t, by_engine (Off (off_most t.p (length off))))) (overlay (flat (take (off_most t.p (length off)) list)) (map s off)) (map s solution) cards
        (overlay (replicate (area_length t.p (length work) (length numbers) * t.p) 0) (map s work)) (overlay (replicate (area_length t.p (length work) (length numbers)) 0) numbers) ≡ made
    leaves_full e =
        let f : leb (length list) (off_most t.p (length (map s off))) ≡ false = ap (λ n. leb (length list) (off_most t.p n)) (length-map off s) ∙ e in
        rw (verdict ∙ passed, f) (simp length-map)

    pub leaves_open : leb (length list) (off_most t.p (length off)) ≡ true
        → leaving (Ok (record { p = t.p; rows = t.rows; off = length list; count = on_count t.rows rs })) (overlay (flat (take (off_most t.p (length off)) list)) (map s off)) (overlay (flat (on_cubes t.p t.rows (map s ts) rs)) (map s solution)) (overlay (replicate (on_count t.rows rs) blank) cards)
        (overlay (replicate (area_length t.p (length work) (length numbers) * t.p) 0) (map s work)) (overlay (replicate (area_length t.p (length work) (length numbers)) 0) numbers) ≡ made
    leaves_open e =
        let f : leb (length list) (off_most t.p (length (map s off))) ≡ true = ap (λ n. leb (length list) (off_most t.p n)) (length-map off s) ∙ e in
        let all : take (off_most t.p (length off)) list ≡ list = take_all (off_most t.p (length off)) list (leb-true (length list) (off_most t.p (length off)) e) in
        rw (verdict ∙ passed, f, all) (simp length-map)

pub on_few : (n : ℕ) (cs : List Card) → on_count n cs ≤ n
on_few zero cs = omega arith
on_few (suc n) cs = at_most (is_on (get_or cs 0 blank)) (on_count n (drop 1 cs)) n (on_few n (drop 1 cs))
  where
    at_most : (t : Bool) (m n : ℕ) → m ≤ n → cond t 1 0 + m ≤ suc n
    at_most true m n h = omega arith
    at_most false m n h = omega arith

-- ---- what the answer of the off list says

refused_by : (b : Bool) (n most : ℕ) (c : Cause) → cond b (Ok n) (Err (Off most)) ≡ Err c → (b ≡ false) × (c ≡ Off most)
refused_by true n most c e = let z : ◌≡◌ {A = ℕ} 0 1 = cc in absurd (omega arith)
refused_by false n most c e = (refl, cc)

pub off_refused : (most : ℕ) (L : Cover) (c : Cause) → off_answer most L ≡ Err c → (leb (length L) most ≡ false) × (c ≡ Off most)
off_refused most L c e = refused_by (leb (length L) most) (length L) most c e

answered_by : (b : Bool) (n most m : ℕ) → cond b (Ok n) (Err (Off most)) ≡ Ok m → (b ≡ true) × (m ≡ n)
answered_by true n most m e = (refl, cc)
answered_by false n most m e = let z : ◌≡◌ {A = ℕ} 0 1 = cc in absurd (omega arith)

pub off_answered : (most : ℕ) (L : Cover) (m : ℕ) → off_answer most L ≡ Ok m → (leb (length L) most ≡ true) × (m ≡ length L)
off_answered most L m e = answered_by (leb (length L) most) (length L) most m e

-- the off list of the rows that are read as a list
pub off_same : {X : Type 0} (s : X → ℕ) (p n : ℕ) (U T : List X) (l : Cubes X) → l.p ≡ p → l.n ≡ n → l.parts.now ≡ T → off_of s U l ≡ off_list p n (map s U) (map s T)
off_same s p n U T l ep en et = rw (ep, en, et)
