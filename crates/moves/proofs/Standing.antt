-- What stands, in terms of care and off vertices.
use Rattle.std.proofs.Common.{◌≡◌, ℕ, ◌^◌, ◌<◌, Bool, true, false, cond, ◌||◌, ◌↔◌, List, [], ◌∷◌, length, get_or, set, sym, refl, ap, ◌∙◌, subst, ⊎_elim, arith}
use native.Mathlib.Nat.{pow-le-pow_right}
use lib.Bits.{bit_or}
use Rattle.std.specs.List.{AllByRecursion}
use Rattle.std.proofs.lemmas.List.{length-set}
use Rattle.std.proofs.lemmas.Nat.{pow_pos}
use Rattle.std.proofs.ByRecursion.{All-weaker}
use Rattle.std.proofs.lemmas.Bool.{both_ways, or_left, or_right, or_cases, eq-eqb, eqb-true}
use Rattle.parts.specs.Sets.{has, minus}
use Rattle.parts.proofs.Bits.{has-or, has_only}
use Rattle.cubes.specs.Cubes.{Cube, Vertex, Cover, Wide, live, holds, held, covers, rest}
use Rattle.cubes.specs.Tables.{Row, on_rows, dc_rows, all_rows, Point, Care, Off, Prime, Irredundant}
use Rattle.cubes.proofs.Vertices.{covers-holds, holds-below, none_less, within}
use Rattle.cubes.proofs.Cuts.{held-++, rest_wide}
use Rattle.cubes.proofs.Proved.{rest_exact, on_rows_lawful}
use Rattle.moves.specs.Sound.{Alive, Within, Apart, PrimeIn, Needed}
use Rattle.moves.specs.Standing.{Sized, Proper, Standing}
use Rattle.moves.proofs.Taking.{all_right, all_both}
use Rattle.moves.proofs.Vertices.{touches_since, touches_vertex, untouched, covers_part, covers-set}

-- ---- rows

pub all_on : (P : Cube → Type 0) (T : List Row) → AllByRecursion P (all_rows T) → AllByRecursion P (on_rows T)
all_on P [] h = tt
all_on P (r ∷ T) h = by r.on (all_on P T h.1)
  where
    by : (t : Bool) → AllByRecursion P (on_rows T) → AllByRecursion P (cond t (r.cube ∷ on_rows T) (on_rows T))
    by true k = (h.0, k)
    by false k = k

pub all_dc : (P : Cube → Type 0) (T : List Row) → AllByRecursion P (all_rows T) → AllByRecursion P (dc_rows T)
all_dc P [] h = tt
all_dc P (r ∷ T) h = by r.on (all_dc P T h.1)
  where
    by : (t : Bool) → AllByRecursion P (dc_rows T) → AllByRecursion P (cond t (dc_rows T) (r.cube ∷ dc_rows T))
    by true k = k
    by false k = (h.0, k)

pub rows_held : (T : List Row) (v : Vertex) → held (all_rows T) v ≡ (held (on_rows T) v || held (dc_rows T) v)
rows_held [] v = refl
rows_held (r ∷ T) v = by r.on (rows_held T v)
  where
    by : (t : Bool) → held (all_rows T) v ≡ (held (on_rows T) v || held (dc_rows T) v)
        → (holds r.cube v || held (all_rows T) v)
        ≡ (held (cond t (r.cube ∷ on_rows T) (on_rows T)) v || held (cond t (dc_rows T) (r.cube ∷ dc_rows T)) v)
    by true h = rw h (grind arith)
    by false h = rw h (grind arith)

-- ---- cubes that meet no cube of R

pub apart-held : (R C : Cover) (v : Vertex) → Apart R C → held R v ≡ true → held C v ≡ false
apart-held R [] v a h = refl
apart-held R (c ∷ C) v a h = grind (arith, touches_since c R v, apart-held R C v a.1 h, a.0)

-- ---- within the universe

sized-below : (most u : ℕ) → Sized most u → u < 2 ^ most
sized-below most u (s, one, le, e) =
    let two : 0 < 2 = omega arith in omega (arith, pow_pos s, pow-le-pow_right two le)

module _ (p most : ℕ) (U : Cube) (T : List Row) (table : Proper p most U T) where
  -- what a cube within the universe holds is a point of it
  pub within-point : (c : Cube) (v : Vertex) → length c ≡ p → covers U c ≡ true → length v ≡ p → holds c v ≡ true → Point p most v × (holds U v ≡ true)
  within-point c v e i l h =
      let u : holds U v ≡ true = covers-holds U c v (table.parts ∙ sym e) i h in
      ((l, holds-below most U v (l ∙ sym table.parts) (All-weaker (Sized most) (λ s. s < 2 ^ most) (sized-below most) U table.sizes) u), u)

  -- the ON rows, with any list that holds exactly the off vertices
  pub rows_stand : (R : Cover) → Wide p R → ((v : Vertex) → Point p most v → (held R v ≡ true) ↔ Off U T v) → Standing p most U T R (on_rows T)
  rows_stand R w x =
      record {
        table = table;
        off_wide = w;
        off_exact = x;
        wide = all_on (λ c. length c ≡ p) T table.wide;
        alive = all_on (λ c. live c ≡ true) T table.alive;
        within = all_on (λ c. covers U c ≡ true) T table.within;
        lawful = on_rows_lawful p most U T;
      }

  pub on_stands : Standing p most U T (rest U (all_rows T)) (on_rows T)
  on_stands =
      rows_stand (rest U (all_rows T)) (subst (λ n. Wide n (rest U (all_rows T))) table.parts (rest_wide U (all_rows T)))
      (λ v pt. rest_exact p most U T v table.parts table.wide pt)

module _ (p most : ℕ) (U : Cube) (T : List Row) (R C : Cover) (s : Standing p most U T R C) where
  pub standing_apart : Apart R C
  standing_apart = go C (λ v h. h) s.wide s.within
    where
      go : (D : Cover) → ((v : Vertex) → held D v ≡ true → held C v ≡ true) → Wide p D → Within U D → Apart R D
      go [] sub w i = tt
      go (d ∷ D) sub w i = (untouched p d R w.0 s.off_wide out, go D (λ v h. sub v (or_right _ _ h)) w.1 i.1)
        where
          out : (v : Vertex) → length v ≡ p → holds d v ≡ true → held R v ≡ false
          out v l h = by (held R v) refl
            where
              by : (t : Bool) → held R v ≡ t → t ≡ false
              by false q = refl
              by true q =
                  let pt = (within-point p most U T s.table d v w.0 i.0 l h).0 in
                  absurd (both_ways _ ((s.lawful v pt).1 ((s.off_exact v pt).0 q)) (sub v (or_left _ _ h)))

  -- other cubes in their place, which lose no vertex that matters
  pub still_stands : (E : Cover) → Wide p E → Alive E → Within U E → Apart R E
      → ((v : Vertex) → held C v ≡ true → held (dc_rows T) v ≡ false → held E v ≡ true) → Standing p most U T R E
  still_stands E w l i a keep =
      record {
        table = s.table;
        off_wide = s.off_wide;
        off_exact = s.off_exact;
        wide = w;
        alive = l;
        within = i;
        lawful = λ v pt. (λ c. keep v ((s.lawful v pt).0 c) c.1, λ o. apart-held R E v a ((s.off_exact v pt).1 o));
      }

  -- a value of the universe more
  more_within : (c : Cube) (k x : ℕ) → length c ≡ p → covers U c ≡ true → has (get_or U k 0) x ≡ true → covers U (set c k (bit_or (get_or c k 0) (2 ^ x))) ≡ true
  more_within c k x e i u =
      let a : ℕ = get_or c k 0 in
      let same : length U ≡ length c = s.table.parts ∙ sym e in
      let old : minus a (get_or U k 0) ≡ 0 = covers_part U c k same i in
      covers-set U c k (bit_or a (2 ^ x)) same i
      (none_less (get_or U k 0) (bit_or a (2 ^ x)) (λ y h. ⊎_elim
      (λ g. within (get_or U k 0) a y (eq-eqb _ _ old) g)
      (λ g. subst (λ z. has (get_or U k 0) z ≡ true) (sym (eqb-true y x (sym (has_only x y) ∙ g))) u)
      (or_cases _ _ (sym (has-or a (2 ^ x) y) ∙ h))))

  pub prime_stands : AllByRecursion (PrimeIn p U R) C → AllByRecursion (Prime p most U T) C
  prime_stands h =
      all_both (λ c. (length c ≡ p) × (covers U c ≡ true)) (PrimeIn p U R) (Prime p most U T) prime C
      (all_both (λ c. length c ≡ p) (λ c. covers U c ≡ true) (λ c. (length c ≡ p) × (covers U c ≡ true)) (λ c e i. (e, i)) C s.wide s.within) h
    where
      prime : (c : Cube) → (length c ≡ p) × (covers U c ≡ true) → PrimeIn p U R c → Prime p most U T c
      prime c (e, i) full k x l u n =
          let g : Cube = set c k (bit_or (get_or c k 0) (2 ^ x)) in
          let long : length g ≡ p = length-set c k (bit_or (get_or c k 0) (2 ^ x)) ∙ e in
          let (v, m, a, b) = touches_vertex p g R long s.off_wide (full k l x u n) in
          let pt = (within-point p most U T s.table g v long (more_within c k x e i u) m a).0 in
          (v, pt, (s.off_exact v pt).0 b, a)

  -- what is held and is no DC row's is a care vertex
  pub held_care : (v : Vertex) → Point p most v → holds U v ≡ true → held C v ≡ true → held (dc_rows T) v ≡ false → Care T v
  held_care v pt u h d = (on (held (all_rows T) v) refl, d)
    where
      on : (t : Bool) → held (all_rows T) v ≡ t → held (on_rows T) v ≡ true
      on true q = by (held (on_rows T) v) (held (dc_rows T) v) (sym (rows_held T v) ∙ q) d
        where
          by : (o d : Bool) → (o || d) ≡ true → d ≡ false → o ≡ true
          by o d h k = grind arith
      on false q = absurd (both_ways _ ((s.lawful v pt).1 (u, q)) h)

  pub needed_stands : Needed p (dc_rows T) C → Irredundant p most T C
  needed_stands need X c Y e =
      let (v, l, h, o, d) = need X c Y e in
      let long = (all_right (λ c. length c ≡ p) X (c ∷ Y) (subst (Wide p) e s.wide)).0 in
      let in-u = (all_right (λ c. covers U c ≡ true) X (c ∷ Y) (subst (Within U) e s.within)).0 in
      let (pt, u) = within-point p most U T s.table c v long in-u l h in
      let there : held C v ≡ true = ap (λ K. held K v) e ∙ held-++ X (c ∷ Y) v ∙ or_right _ _ (or_left _ _ h) in
      (v, pt, held_care v pt u there d, there, o)
