-- The cubes after Drop: each that is left has a vertex that no other holds, and no row that does not matter.
use Rattle.std.proofs.Common.{◌≡◌, ℕ, ◌+◌, ◌<◌, ◌≤◌, Bool, true, false, cond, not, ◌||◌, eqb, List, [], ◌∷◌, ◌++◌, map, length, sym, refl, ap, ◌∙◌, subst, arith}
use Rattle.std.specs.List.{ContainsAt, AllByRecursion}
use Rattle.std.proofs.lemmas.List.{length-append, length-map}
use Rattle.std.proofs.ByRecursion.{All-append, All-weaker, All-map, all_has_itself}
use Rattle.std.proofs.lemmas.Bool.{true≢false, cond_both, or_parts}
use Rattle.cubes.specs.Cubes.{Cube, Vertex, Cover, Wide, live, holds, held}
use Rattle.cubes.specs.Theorems.{count}
use Rattle.cubes.proofs.Cuts.{held-++}
use Rattle.cubes.proofs.Vertices.{vertex_live}
use Rattle.orders.specs.Rules.{Rule}
use Rattle.moves.specs.Items.{Item, cubes_of, waits, placed, taking, started}
use Rattle.moves.specs.Kept.{reduced, none_left}
use Rattle.moves.specs.Drop.{put, dropping}
use Rattle.moves.specs.Sound.{Needed, Dropped}
use Rattle.moves.specs.Calls.{drop_spare}
use Rattle.moves.proofs.Parts.{bool_same}
use Rattle.moves.proofs.Kept.{own_vertex, none-own}
use Rattle.moves.proofs.Taking.{cubes-++, tally, tally-++, length-cubes, all_left, all_right, all_both, all_cubes, taking-keeps, taking-all, Taken, Less, cubes-carded, length-carded, waits-started, fresh, Once}

-- ---- the list with other cubes in an item's place

cubes-placed : (f : Item) (E : Cover) → cubes_of (map (placed f) E) ≡ E
cubes-placed f [] = refl
cubes-placed f (c ∷ E) = ap (λ D. c ∷ D) (cubes-placed f E)

pub cubes-put : (X : List Item) (f : Item) (Y : List Item) (E : Cover) → cubes_of (put X f Y E) ≡ cubes_of X ++ E ++ cubes_of Y
cubes-put X f Y E =
    cubes-++ (X ++ map (placed f) E) Y ∙ ap (λ D. D ++ cubes_of Y) (cubes-++ X (map (placed f) E) ∙ ap (λ D. cubes_of X ++ D) (cubes-placed f E))

waits-placed : (f : Item) (E : Cover) → tally waits (map (placed f) E) ≡ 0
waits-placed f [] = refl
waits-placed f (c ∷ E) = omega (arith, waits-placed f E)

pub put_less : (X : List Item) (f : Item) (Y : List Item) (E : Cover) → f.taken ≡ false → tally waits (put X f Y E) < tally waits (X ++ f ∷ Y)
put_less X f Y E e =
    let here : ◌≡◌ {A = ℕ} (cond (waits f) 1 0) 1 = ap (λ t. cond {A = ℕ} (not t) 1 0) e in
    omega (
      arith,
      tally-++ waits (X ++ map (placed f) E) Y,
      tally-++ waits X (map (placed f) E),
      tally-++ waits X (f ∷ Y),
      waits-placed f E,
    )

-- places stay apart where at most one cube stands in f's place
pub put_once : (X : List Item) (f : Item) (Y : List Item) (E : Cover) → length E ≤ 1 → Once (X ++ f ∷ Y) → Once (put X f Y E)
put_once X f Y E l h q =
    omega (
      arith,
      h q,
      tally-++ at (X ++ map (placed f) E) Y,
      tally-++ at X (map (placed f) E),
      tally-++ at X (f ∷ Y),
      few E l,
    )
  where
    at : Item → Bool
    at i = eqb i.place q

    few : (E : Cover) → length E ≤ 1 → tally at (map (placed f) E) ≤ cond (at f) 1 0
    few [] l = omega arith
    few (c ∷ []) l = omega arith
    few (c ∷ d ∷ E) l = absurd (omega arith)

pub all_put : (P : Item → Type 0) (X : List Item) (f : Item) (Y : List Item) (E : Cover) → AllByRecursion P (X ++ f ∷ Y) → AllByRecursion (λ c. P (placed f c)) E → AllByRecursion P (put X f Y E)
all_put P X f Y E h k =
    All-append P (X ++ map (placed f) E) Y
    (All-append P X (map (placed f) E) (all_left P X (f ∷ Y) h) (All-map P (placed f) E k)) (all_right P X (f ∷ Y) h).1

pub length-put : (X : List Item) (f : Item) (Y : List Item) (E : Cover) → length E ≤ 1 → length (put X f Y E) ≤ length (X ++ f ∷ Y)
length-put X f Y E l =
    omega (
      arith,
      length-append (X ++ map (placed f) E) Y,
      length-append X (map (placed f) E),
      length-append X (f ∷ Y),
      length-map E (placed f),
    )

-- what the list holds with E in f's place, with f, and without either beside D
pub held-put : (X : List Item) (f : Item) (Y : List Item) (E : Cover) (v : Vertex)
    → held (cubes_of (put X f Y E)) v ≡ ((held (cubes_of X) v || held E v) || held (cubes_of Y) v)
held-put X f Y E v =
    ap (λ K. held K v) (cubes-put X f Y E) ∙ held-++ (cubes_of X ++ E) (cubes_of Y) v ∙ ap (λ t. t || held (cubes_of Y) v) (held-++ (cubes_of X) E v)

pub held_item : (X : List Item) (f : Item) (Y : List Item) (v : Vertex)
    → held (cubes_of (X ++ f ∷ Y)) v ≡ (held (cubes_of X) v || (holds f.cube v || held (cubes_of Y) v))
held_item X f Y v = ap (λ K. held K v) (cubes-++ X (f ∷ Y)) ∙ held-++ (cubes_of X) (f.cube ∷ cubes_of Y) v

pub held-others : (X Y : List Item) (D : Cover) (v : Vertex)
    → held (cubes_of X ++ cubes_of Y ++ D) v ≡ ((held (cubes_of X) v || held (cubes_of Y) v) || held D v)
held-others X Y D v = held-++ (cubes_of X ++ cubes_of Y) D v ∙ ap (λ t. t || held D v) (held-++ (cubes_of X) (cubes_of Y) v)

-- ---- how many hold a vertex

count-++ : (C D : Cover) (v : Vertex) → count (C ++ D) v ≡ count C v + count D v
count-++ [] D v = omega arith
count-++ (c ∷ C) D v = omega (arith, count-++ C D v)

held_none : (C : Cover) (v : Vertex) → held C v ≡ false → count C v ≡ 0
held_none [] v h = refl
held_none (c ∷ C) v h =
    let parts : (holds c v ≡ false) × (held C v ≡ false) = or_parts _ _ h in rw parts.0 (omega (arith, held_none C v parts.1))

none-held : (C : Cover) (v : Vertex) → count C v ≡ 0 → held C v ≡ false
none-held [] v h = refl
none-held (c ∷ C) v h = by (holds c v) h (none-held C v)
  where
    by : (t : Bool) → cond t 1 0 + count C v ≡ 0 → (count C v ≡ 0 → held C v ≡ false) → (t || held C v) ≡ false
    by true e k = absurd (omega arith)
    by false e k = k (omega arith)

-- an item of the list that holds a vertex counts
counts : (L : List Item) (n : Vertex → ℕ) → ((v : Vertex) → count (cubes_of L) v ≤ n v) → AllByRecursion (λ i. (v : Vertex) → holds i.cube v ≡ true → 0 < n v) L
counts [] n h = tt
counts (i ∷ L) n h = (
  λ v k. let one : ◌≡◌ {A = ℕ} (cond (holds i.cube v) 1 0) 1 = ap (λ t. cond {A = ℕ} t 1 0) k in omega (arith, h v),
  counts L n (λ v. omega (arith, h v)),
)

count_item : (X : List Item) (f : Item) (Y : List Item) (v : Vertex)
    → count (cubes_of (X ++ f ∷ Y)) v ≡ count (cubes_of X) v + (cond (holds f.cube v) 1 0 + count (cubes_of Y) v)
count_item X f Y v = ap (λ K. count K v) (cubes-++ X (f ∷ Y)) ∙ count-++ (cubes_of X) (f.cube ∷ cubes_of Y) v

count-put : (X : List Item) (f : Item) (Y : List Item) (E : Cover) (v : Vertex)
    → count (cubes_of (put X f Y E)) v ≡ count (cubes_of X) v + count E v + count (cubes_of Y) v
count-put X f Y E v =
    ap (λ K. count K v) (cubes-put X f Y E) ∙ count-++ (cubes_of X ++ E) (cubes_of Y) v ∙ ap (λ n. n + count (cubes_of Y) v) (count-++ (cubes_of X) E v)

-- the cube has a vertex of p values that no other cube of C holds, and none of D
abbrev Alone : ℕ → Cover → Cover → Cube → Type 0
Alone p C D c = (v : Vertex) × (length v ≡ p) × (holds c v ≡ true) × (count C v ≡ 1) × (held D v ≡ false)

alone_needed : (p : ℕ) (C D : Cover) → AllByRecursion (Alone p C D) C → Needed p D C
alone_needed p C D h X c Y e =
    let (v, l, k, n, d) = (all_right (Alone p C D) X (c ∷ Y) (subst (AllByRecursion (Alone p C D)) e h)).0 in
    let one : ◌≡◌ {A = ℕ} (cond (holds c v) 1 0) 1 = ap (λ t. cond {A = ℕ} t 1 0) k in
    (v, l, k, none-held (X ++ Y) v (omega (arith, ap (λ K. count K v) e, count-++ X (c ∷ Y) v, count-++ X Y v)), d)

-- ---- the act

pub dropping_less : (D : Cover) (P : List Item → Type 0) → Less (dropping D) P
dropping_less D P X f Y e _ = put_less X f Y (cond (none_left (reduced f.cube (cubes_of X ++ cubes_of Y ++ D))) [] (f.cube ∷ [])) e

pub dropping_once : (D : Cover) (X : List Item) (f : Item) (Y : List Item) → f.taken ≡ false → Once (X ++ f ∷ Y) → Once (dropping D X f Y)
dropping_once D X f Y _ h =
    let t : Bool = none_left (reduced f.cube (cubes_of X ++ cubes_of Y ++ D)) in
    put_once X f Y (cond t [] (f.cube ∷ [])) (cond_both t [] (f.cube ∷ []) (λ K. length K ≤ 1) (λ _. omega arith) (λ _. omega arith)) h

pub dropping-taken : (C D : Cover) (B : Rule) → AllByRecursion Taken (taking (length C) B (dropping D) (started C))
dropping-taken C D B =
    taking-all B (dropping D) (λ _. Unit {0}) (λ _ _ _ _ _. tt) (dropping_less D (λ _. Unit {0})) (length C) (started C) tt (waits-started C)

-- ---- one cube is taken

module _ (p : ℕ) (C D : Cover) (pos : 0 < p) (wD : Wide p D) where
  -- p parts, and one of C
  abbrev Whole : Cube → Type 0
  Whole c = (length c ≡ p) × ContainsAt C c

  abbrev Own : List Item → Item → Type 0
  Own L i = Alone p (cubes_of L) D i.cube

  -- of the items taken each has a vertex of its own
  abbrev Good : List Item → Type 0
  Good L =
      AllByRecursion (λ i. Whole i.cube × (i.taken ≡ true → Own L i)) L
      × ((v : Vertex) → held C v ≡ true → held D v ≡ false → held (cubes_of L) v ≡ true)
      × ((v : Vertex) → held (cubes_of L) v ≡ true → held C v ≡ true) × (length L ≤ length C)

  wide_items : (L : List Item) → AllByRecursion (λ i. Whole i.cube) L → Wide p (cubes_of L)
  wide_items L h = all_cubes (λ c. length c ≡ p) L (All-weaker (λ i. Whole i.cube) (λ i. length i.cube ≡ p) (λ i q. q.0) L h)

  -- a list in which no vertex is held more often
  still : (L M : List Item) → ((v : Vertex) → count (cubes_of M) v ≤ count (cubes_of L) v)
      → AllByRecursion (λ i. Whole i.cube × (i.taken ≡ true → Own L i)) M → AllByRecursion (λ i. Whole i.cube × (i.taken ≡ true → Own M i)) M
  still L M le h =
      all_both (λ i. Whole i.cube × (i.taken ≡ true → Own L i)) (λ i. (v : Vertex) → holds i.cube v ≡ true → 0 < count (cubes_of M) v)
      (λ i. Whole i.cube × (i.taken ≡ true → Own M i))
      (λ i need has. (need.0, λ t. let (v, l, k, c, d) = need.1 t in (v, l, k, omega (arith, has v k, le v), d))) M h
      (counts M (count (cubes_of M)) (λ v. omega arith))

  -- E stands in f's place
  put_keeps : (X : List Item) (f : Item) (Y : List Item) (E : Cover) → length E ≤ 1
      → ((v : Vertex) → count E v ≤ cond (holds f.cube v) 1 0)
      → ((v : Vertex) → holds f.cube v ≡ true → held (cubes_of X ++ cubes_of Y ++ D) v ≡ false → held E v ≡ true)
      → ((v : Vertex) → held E v ≡ true → holds f.cube v ≡ true)
      → AllByRecursion (λ c. Whole c × Alone p (cubes_of (X ++ f ∷ Y)) D c) E → Good (X ++ f ∷ Y) → Good (put X f Y E)
  put_keeps X f Y E short le give back new h = (
    still L (put X f Y E) (λ v. omega (arith, count_item X f Y v, count-put X f Y E v, le v))
        (all_put (λ i. Whole i.cube × (i.taken ≡ true → Own L i)) X f Y E h.0
        (All-weaker (λ c. Whole c × Alone p (cubes_of L) D c) (λ c. Whole c × (true ≡ true → Alone p (cubes_of L) D c)) (λ c q. (q.0, λ _. q.1)) E new)),
    λ v k d. held-put X f Y E v
        ∙ one (held (cubes_of X) v) (held E v) (held (cubes_of Y) v) (holds f.cube v) (held D v) (give v) (held-others X Y D v) d (sym (held_item X f Y v) ∙ h.1 v k d),
    λ v k. h.2 v (held_item X f Y v ∙ two (held (cubes_of X) v) (held E v) (held (cubes_of Y) v) (holds f.cube v) (back v) (sym (held-put X f Y E v) ∙ k)),
    omega (arith, h.3, length-put X f Y E short),
  )
    where
      L : List Item
      L = X ++ f ∷ Y

      one : (x e y f d : Bool) {o : Bool} → (f ≡ true → o ≡ false → e ≡ true) → o ≡ ((x || y) || d) → d ≡ false → (x || (f || y)) ≡ true → ((x || e) || y) ≡ true
      one x e y f d g q n k = grind arith

      two : (x e y f : Bool) → (e ≡ true → f ≡ true) → ((x || e) || y) ≡ true → (x || (f || y)) ≡ true
      two x e y f g k = grind arith

  -- the cube stays, since it has a vertex of its own
  rests : (X : List Item) (f : Item) (Y : List Item)
      → (v : Vertex) × (length v ≡ p) × (holds f.cube v ≡ true) × (held (cubes_of X ++ cubes_of Y ++ D) v ≡ false)
      → Good (X ++ f ∷ Y) → Good (put X f Y (f.cube ∷ []))
  rests X f Y (v, l, k, o) h =
      let c : Cube = f.cube in
      let apart : (held (cubes_of X ++ cubes_of Y) v ≡ false) × (held D v ≡ false) = or_parts _ _ (sym (held-++ (cubes_of X ++ cubes_of Y) D v) ∙ o) in
      let sides : (held (cubes_of X) v ≡ false) × (held (cubes_of Y) v ≡ false) = or_parts _ _ (sym (held-++ (cubes_of X) (cubes_of Y) v) ∙ apart.0) in
      let one : ◌≡◌ {A = ℕ} (cond (holds c v) 1 0) 1 = ap (λ t. cond {A = ℕ} t 1 0) k in
      let once : count (cubes_of (X ++ f ∷ Y)) v ≡ 1 =
      omega (arith, count_item X f Y v, held_none (cubes_of X) v sides.0, held_none (cubes_of Y) v sides.1) in
      put_keeps X f Y (c ∷ []) (omega arith) (λ u. omega arith) (λ u a b. yes_or (holds c u) a) (λ u a. or_yes (holds c u) a)
      (((all_right (λ i. Whole i.cube × (i.taken ≡ true → Own (X ++ f ∷ Y) i)) X (f ∷ Y) h.0).0.0, (v, l, k, once, apart.1)), tt) h
    where
      yes_or : (a : Bool) → a ≡ true → (a || false) ≡ true
      yes_or a h = grind arith

      or_yes : (a : Bool) → (a || false) ≡ true → a ≡ true
      or_yes a h = grind arith

  act_keeps : (X : List Item) (f : Item) (Y : List Item) → f.taken ≡ false → Good (X ++ f ∷ Y) → Good (dropping D X f Y)
  act_keeps X f Y e h =
      let E : Cover = cubes_of X ++ cubes_of Y ++ D in
      let c : Cube = f.cube in
      let whole = All-weaker (λ i. Whole i.cube × (i.taken ≡ true → Own (X ++ f ∷ Y) i)) (λ i. Whole i.cube) (λ i q. q.0) (X ++ f ∷ Y) h.0 in
      let here = all_right (λ i. Whole i.cube) X (f ∷ Y) whole in
      let long : length c ≡ p = here.0.0 in
      let w : Wide (length c) E = subst (λ n. Wide n E) (sym long)
      (All-append (λ d. length d ≡ p) (cubes_of X ++ cubes_of Y) D
      (All-append (λ d. length d ≡ p) (cubes_of X) (cubes_of Y) (wide_items X (all_left (λ i. Whole i.cube) X (f ∷ Y) whole)) (wide_items Y here.1)) wD) in
      cond_both (none_left (reduced c E)) [] (c ∷ []) (λ K. Good (put X f Y K))
      (λ q. put_keeps X f Y [] (omega arith) (λ v. omega arith) (λ v a b. absurd (true≢false (sym (none-own c E v w q a) ∙ b))) (λ v k. absurd (true≢false (sym k))) tt h)
      (λ q. let (v, l, a, b) = own_vertex c E w (omega arith) q in rests X f Y (v, l ∙ long, a, b) h)

  pub dropped : (B : Rule) → Wide p C → Dropped p D C (drop_spare B D C)
  unfolding drop_spare
  dropped B w =
      let L : List Item = taking (length C) B (dropping D) (started C) in
      let g : Good L = taking-keeps B (dropping D) Good act_keeps (length C) (started C) (
        fresh Whole (λ i. Own (started C) i) C 0 C (all_both (λ c. length c ≡ p) (ContainsAt C) Whole (λ c e q. (e, q)) C w (all_has_itself C)),
        λ v h _. ap (λ K. held K v) (cubes-carded C 0 C) ∙ h,
        λ v h. sym (ap (λ K. held K v) (cubes-carded C 0 C)) ∙ h,
        omega (arith, length-carded C 0 C),
      ) in
      let whole = All-weaker (λ i. Whole i.cube × (i.taken ≡ true → Own L i)) (λ i. Whole i.cube) (λ i q. q.0) L g.0 in
      let alone : AllByRecursion (Alone p (cubes_of L) D) (cubes_of L) = all_cubes (Alone p (cubes_of L) D) L
      (all_both (λ i. Whole i.cube × (i.taken ≡ true → Own L i)) Taken (Own L) (λ i q t. q.1 t) L g.0 (dropping-taken C D B)) in
      record {
        wide = wide_items L whole;
        among = all_cubes (ContainsAt C) L (All-weaker (λ i. Whole i.cube) (λ i. ContainsAt C i.cube) (λ i q. q.1) L whole);
        alive = All-weaker (Alone p (cubes_of L) D) (λ c. live c ≡ true) (λ c q. vertex_live c q.0 q.2) (cubes_of L) alone;
        same = λ v d. bool_same (held (cubes_of L) v) (held C v) (g.2 v) (λ k. g.1 v k d);
        no_more = g.2;
        needed = alone_needed p (cubes_of L) D alone;
        fewer = omega (arith, g.3, length-cubes L);
      }
