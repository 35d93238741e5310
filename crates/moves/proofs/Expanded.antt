-- The expanded cubes: prime in each part, with every vertex that was held, and no more of them.
use Rattle.std.proofs.Common.{◌≡◌, ℕ, ◌+◌, ◌<◌, ◌≤◌, Bool, true, false, cond, not, ◌||◌, eqb, List, [], ◌∷◌, ◌++◌, length, sym, refl, ap, ◌∙◌, arith}
use Rattle.std.specs.List.{AllByRecursion}
use Rattle.std.proofs.ByRecursion.{All-append, All-weaker, all_kept_by}
use Rattle.std.proofs.lemmas.Bool.{true≢false}
use Rattle.cubes.specs.Cubes.{Cube, Vertex, Cover, Wide, holds, held, covers}
use Rattle.cubes.proofs.Cuts.{held-++}
use Rattle.cubes.proofs.Vertices.{covers-holds}
use Rattle.orders.specs.Rules.{Rule}
use Rattle.moves.specs.Items.{Item, cubes_of, waits, placed, taking, started}
use Rattle.moves.specs.Widen.{touches}
use Rattle.moves.specs.Sound.{Within, Apart, PrimeIn, Expanded}
use Rattle.moves.specs.Expand.{grown, spared, put_grown, expanding}
use Rattle.moves.specs.Calls.{expand}
use Rattle.moves.proofs.Taking.{cubes-++, tally, tally-++, length-cubes, all_left, all_right, all_both, all_cubes, taking-keeps, taking-all, Taken, Less, cubes-carded, waits-started, length-carded, fresh, Once}
use Rattle.moves.proofs.Growth.{Fit, Safe, grown_good, grown-safe}

-- ---- what is spared

tally-spared : (t : Item → Bool) (g : Cube) (L : List Item) → tally t (spared g L) ≤ tally t L
unfolding spared
tally-spared t g [] = omega arith
tally-spared t g (i ∷ L) = by (covers g i.cube) (tally-spared t g L)
  where
    by : (b : Bool) → tally t (spared g L) ≤ tally t L → tally t (cond (not b) (i ∷ spared g L) (spared g L)) ≤ cond (t i) 1 0 + tally t L
    by true h = omega arith
    by false h = omega arith

held-spared : (p : ℕ) (g : Cube) (L : List Item) (v : Vertex) → length g ≡ p → AllByRecursion (λ i. length i.cube ≡ p) L
    → held (cubes_of L) v ≡ true → (holds g v || held (cubes_of (spared g L)) v) ≡ true
unfolding spared
held-spared p g [] v e w h = absurd (true≢false (sym h))
held-spared p g (i ∷ L) v e w h = by (covers g i.cube) (covers-holds g i.cube v (e ∙ sym w.0)) (held-spared p g L v e w.1)
  where
    by : (b : Bool) → (b ≡ true → holds i.cube v ≡ true → holds g v ≡ true)
        → (held (cubes_of L) v ≡ true → (holds g v || held (cubes_of (spared g L)) v) ≡ true)
        → (holds g v || held (cubes_of (cond (not b) (i ∷ spared g L) (spared g L))) v) ≡ true
    by true c k = grind arith
    by false c k = grind arith

all_spared : (P : Item → Type 0) (g : Cube) (L : List Item) → AllByRecursion P L → AllByRecursion P (spared g L)
unfolding spared
all_spared P g L h = all_kept_by (λ i. not (covers g i.cube)) P L h

length-tally : (L : List Item) → length L ≡ tally (λ _. true) L
length-tally [] = refl
length-tally (i ∷ L) = omega (arith, length-tally L)

-- ---- one cube is taken

pub expanding_less : (U : Cube) (R : Cover) (P : List Item → Type 0) → Less (expanding U R) P
expanding_less U R P X f Y e _ = by (grown U R f.cube (cubes_of X ++ cubes_of Y))
  where
    by : (g : Cube) → tally waits (put_grown X f Y g) < tally waits (X ++ f ∷ Y)
    by g =
        let here : ◌≡◌ {A = ℕ} (cond (waits f) 1 0) 1 = ap (λ t. cond {A = ℕ} (not t) 1 0) e in
        omega (
          arith,
          tally-++ waits (spared g X) (placed f g ∷ spared g Y),
          tally-++ waits X (f ∷ Y),
          tally-spared waits g X,
          tally-spared waits g Y,
        )

pub expanding-taken : (U : Cube) (R C : Cover) (B : Rule) → AllByRecursion Taken (taking (length C) B (expanding U R) (started C))
expanding-taken U R C B =
    taking-all B (expanding U R) (λ _. Unit {0}) (λ _ _ _ _ _. tt) (expanding_less U R (λ _. Unit {0})) (length C) (started C) tt (waits-started C)

-- Q is what else is known of each cube, and holds of one that covers another of which it holds
module _ (p : ℕ) (U : Cube) (R C : Cover) (Q : Cube → Type 0) (eU : length U ≡ p) (wR : Wide p R)
    (up : (g f : Cube) → length g ≡ length f → covers g f ≡ true → Q f → Q g) where
  -- fit, and prime once it is taken
  abbrev Done : Item → Type 0
  Done i = (Fit p U R i.cube × Q i.cube) × (i.taken ≡ true → PrimeIn p U R i.cube)

  abbrev Keeps : List Item → Type 0
  Keeps L = AllByRecursion Done L × ((v : Vertex) → held C v ≡ true → held (cubes_of L) v ≡ true) × (length L ≤ length C)

  put_keeps : (X : List Item) (f : Item) (Y : List Item) (g : Cube) → Fit p U R g → covers g f.cube ≡ true → PrimeIn p U R g
      → Keeps (X ++ f ∷ Y) → Keeps (put_grown X f Y g)
  put_keeps X f Y g fit c prime h =
      let dX : AllByRecursion Done X = all_left Done X (f ∷ Y) h.0 in
      let dfY : AllByRecursion Done (f ∷ Y) = all_right Done X (f ∷ Y) h.0 in
      let same : length g ≡ length f.cube = fit.0 ∙ sym dfY.0.0.0.0 in
      let long = λ (L : List Item) (d : AllByRecursion Done L). All-weaker Done (λ i. length i.cube ≡ p) (λ i q. q.0.0.0) L d in (
        All-append Done (spared g X) (placed f g ∷ spared g Y) (all_spared Done g X dX)
            (((fit, up g f.cube same c dfY.0.0.1), λ _. prime), all_spared Done g Y dfY.1),
        λ v k. give (held (cubes_of X) v) (held (cubes_of Y) v) (held (cubes_of (spared g X)) v) (held (cubes_of (spared g Y)) v) (holds f.cube v) (holds g v)
            (held-spared p g X v fit.0 (long X dX)) (held-spared p g Y v fit.0 (long Y dfY.1))
            (covers-holds g f.cube v same c)
            (sym (ap (λ D. held D v) (cubes-++ X (f ∷ Y)) ∙ held-++ (cubes_of X) (f.cube ∷ cubes_of Y) v) ∙ h.1 v k)
            (ap (λ D. held D v) (cubes-++ (spared g X) (placed f g ∷ spared g Y)) ∙ held-++ (cubes_of (spared g X)) (g ∷ cubes_of (spared g Y)) v),
        omega (
          arith,
          h.2,
          length-tally (spared g X ++ placed f g ∷ spared g Y),
          length-tally (X ++ f ∷ Y),
          tally-++ (λ _. true) (spared g X) (placed f g ∷ spared g Y),
          tally-++ (λ _. true) X (f ∷ Y),
          tally-spared (λ _. true) g X,
          tally-spared (λ _. true) g Y,
        ),
      )
    where
      give : (x y x' y' f g : Bool) {n : Bool} → (x ≡ true → (g || x') ≡ true) → (y ≡ true → (g || y') ≡ true) → (f ≡ true → g ≡ true)
          → (x || (f || y)) ≡ true → n ≡ (x' || (g || y')) → n ≡ true
      give x y x' y' f g a b c d e = grind arith

  act_keeps : (X : List Item) (f : Item) (Y : List Item) → f.taken ≡ false → Keeps (X ++ f ∷ Y) → Keeps (expanding U R X f Y)
  act_keeps X f Y e h =
      let dfY : AllByRecursion Done (f ∷ Y) = all_right Done X (f ∷ Y) h.0 in
      let (a, b, c) = grown_good p U R f.cube (cubes_of X ++ cubes_of Y) eU wR dfY.0.0.0 in
      put_keeps X f Y (grown U R f.cube (cubes_of X ++ cubes_of Y)) a b c h

  pub expanded : (B : Rule) → Wide p C → Within U C → Apart R C → AllByRecursion Q C → Expanded p U R C (expand B U R C) × AllByRecursion Q (expand B U R C)
  unfolding expand
  expanded B w i a q =
      let L : List Item = taking (length C) B (expanding U R) (started C) in
      let k : Keeps L = taking-keeps B (expanding U R) Keeps act_keeps (length C) (started C)
      (fresh (λ c. Fit p U R c × Q c) (λ i. PrimeIn p U R i.cube) C 0 C (fits C w i a q), λ v h. ap (λ D. held D v) (cubes-carded C 0 C) ∙ h, omega (arith, length-carded C 0 C)) in
      let each = λ (P : Cube → Type 0) (f : (i : Item) → Done i → P i.cube). all_cubes P L (All-weaker Done (λ i. P i.cube) f L k.0) in (
        record {
          wide = each (λ c. length c ≡ p) (λ i d. d.0.0.0);
          within = each (λ c. covers U c ≡ true) (λ i d. d.0.0.1);
          apart = each (λ c. touches c R ≡ false) (λ i d. d.0.0.2);
          prime = all_cubes (PrimeIn p U R) L (all_both Done Taken (λ i. PrimeIn p U R i.cube) (λ i d t. d.1 t) L k.0 (expanding-taken U R C B));
          keeps = k.1;
          fewer = omega (arith, k.2, length-cubes L);
        },
        each Q (λ i d. d.0.1),
      )
    where
      fits : (D : Cover) → Wide p D → Within U D → Apart R D → AllByRecursion Q D → AllByRecursion (λ c. Fit p U R c × Q c) D
      fits [] w i a q = tt
      fits (c ∷ D) w i a q = (((w.0, i.0, a.0), q.0), fits D w.1 i.1 a.1 q.1)

-- ---- places stay apart

pub expanding_once : (U : Cube) (R : Cover) (X : List Item) (f : Item) (Y : List Item) → f.taken ≡ false → Once (X ++ f ∷ Y) → Once (expanding U R X f Y)
expanding_once U R X f Y e h q = by (grown U R f.cube (cubes_of X ++ cubes_of Y))
  where
    at : Item → Bool
    at i = eqb i.place q

    by : (g : Cube) → tally at (put_grown X f Y g) ≤ 1
    by g = omega (arith, h q, tally-++ at (spared g X) (placed f g ∷ spared g Y), tally-++ at X (f ∷ Y), tally-spared at g X, tally-spared at g Y)

-- ---- no cube meets R, wherever the cubes lie

pub expanding-safe : (p : ℕ) (U : Cube) (R : Cover) (X : List Item) (f : Item) (Y : List Item) → Wide p R
    → AllByRecursion (λ i. Safe p R i.cube) (X ++ f ∷ Y) → AllByRecursion (λ i. Safe p R i.cube) (expanding U R X f Y)
expanding-safe p U R X f Y w h =
    let P : Item → Type 0 = λ i. Safe p R i.cube in
    let g : Cube = grown U R f.cube (cubes_of X ++ cubes_of Y) in
    let k : AllByRecursion P (f ∷ Y) = all_right P X (f ∷ Y) h in
    All-append P (spared g X) (placed f g ∷ spared g Y) (all_spared P g X (all_left P X (f ∷ Y) h))
    (grown-safe p U R f.cube (cubes_of X ++ cubes_of Y) w k.0, all_spared P g Y k.1)
