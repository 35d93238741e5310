-- The kept cube is exact.
use Rattle.std.proofs.Common.{◌≡◌, ℕ, ◌<◌, Bool, true, false, cond, not, ◌&&◌, ◌||◌, ◌↔◌, [], ◌∷◌, length, get_or, sym, refl, ap, ◌∙◌, subst, ⊎_elim, arith}
use Rattle.std.proofs.lemmas.List.{length-replicate, get_or-replicate, ext_get_or}
use Rattle.std.proofs.lemmas.Bool.{and_parts, and_from, not-true, not_from_false, true≢false, or_cases, cond_both}
use Rattle.parts.specs.Sets.{has}
use Rattle.parts.proofs.Bits.{has-none, same}
use Rattle.cubes.specs.Cubes.{Cube, Vertex, Cover, Wide, live, holds, held, rest}
use Rattle.cubes.proofs.Vertices.{live_vertex, vertex_live}
use Rattle.cubes.proofs.Cuts.{rest_exact, rest_wide}
use Rattle.cubes.proofs.Inside.{Live, live-rest}
use Rattle.moves.specs.Kept.{join, span, own, kept, reduced, none_left, Exact}
use Rattle.moves.proofs.Parts.{bool_same, holds_long, holds_part, holds_parts, live_vertex-at, length-join, has_join}

-- ---- the span

pub length-span : (n : ℕ) (C : Cover) → length (span n C) ≡ n
length-span n [] = length-replicate n 0
length-span n (c ∷ C) = cond_both (live c) (join (span n C) c) (span n C) (λ s. length s ≡ n) (λ _. length-join (span n C) c ∙ length-span n C) (λ _. length-span n C)

has_span : (n : ℕ) (c : Cube) (C : Cover) (k x : ℕ) → length c ≡ n
    → has (get_or (span n (c ∷ C)) k 0) x ≡ (has (get_or (span n C) k 0) x || (live c && has (get_or c k 0) x))
has_span n c C k x e = by (live c) (has_join (span n C) c k x (length-span n C ∙ sym e))
  where
    by : (t : Bool) → has (get_or (join (span n C) c) k 0) x ≡ (has (get_or (span n C) k 0) x || has (get_or c k 0) x)
        → has (get_or (cond t (join (span n C) c) (span n C)) k 0) x ≡ (has (get_or (span n C) k 0) x || (t && has (get_or c k 0) x))
    by true h = h
    by false h = grind arith

span_vertex : (n : ℕ) (C : Cover) (k x : ℕ) → Wide n C → k < n → has (get_or (span n C) k 0) x ≡ true
    → (v : Vertex) × (length v ≡ n) × (held C v ≡ true) × (get_or v k 0 ≡ x)
span_vertex n [] k x w l h = absurd (true≢false (sym h ∙ ap (λ s. has s x) (get_or-replicate n k 0 0 l) ∙ has-none x))
span_vertex n (c ∷ C) k x w l h = ⊎_elim
    (λ m. let (v, q, p, e) = span_vertex n C k x w.1 l m in (v, q, grind arith, e))
    (λ m. let both : (live c ≡ true) × (has (get_or c k 0) x ≡ true) = and_parts _ _ m in
    let (v, q, p, e) = live_vertex-at c k x both.0 (rw w.0 l) both.1 in (v, q ∙ w.0, grind arith, e))
    (or_cases _ _ (sym (has_span n c C k x w.0) ∙ h))

span_value : (n : ℕ) (C : Cover) (k : ℕ) (v : Vertex) → Wide n C → k < n → held C v ≡ true
    → has (get_or (span n C) k 0) (get_or v k 0) ≡ true
span_value n [] k v w l h = absurd (true≢false (sym h))
span_value n (c ∷ C) k v w l h =
    let m : k < length c = rw w.0 l in
    grind (arith, has_span n c C k (get_or v k 0) w.0, span_value n C k v w.1 l, holds_part c v k, vertex_live c v)

-- ---- the cube is exact, and the only one

pub kept_exact : (f : Cube) (D : Cover) → Wide (length f) D → Exact f D (kept f D)
kept_exact f D w = (
  length-span (length f) (rest f D),
  λ k x l. (
    λ h. let (v, n, p, e) = span_vertex (length f) (rest f D) k x (rest_wide f D) l h in (v, n, sym (rest_exact f D v w) ∙ p, e),
    λ (v, n, p, e). subst (λ y. has (get_or (kept f D) k 0) y ≡ true) e (span_value (length f) (rest f D) k v (rest_wide f D) l (rest_exact f D v w ∙ p)),
  ),
)

pub exact_same : (f : Cube) (D : Cover) (g h : Cube) → Exact f D g → Exact f D h → g ≡ h
exact_same f D g h p q =
    ext_get_or 0 g h (p.0 ∙ sym q.0)
    (λ k l. same _ _ (λ x. let m : k < length f = rw p.0 at l in
    bool_same _ _ (λ a. (q.1 k x m).1 ((p.1 k x m).0 a)) (λ a. (p.1 k x m).1 ((q.1 k x m).0 a))))

pub kept_alike : (f : Cube) (D E : Cover) → Wide (length f) D → Wide (length f) E
    → ((v : Vertex) → length v ≡ length f → held D v ≡ held E v) → kept f D ≡ kept f E
kept_alike f D E w u h = exact_same f E (kept f D) (kept f E) moved (kept_exact f E u)
  where
    p : Exact f D (kept f D)
    p = kept_exact f D w

    eq : (v : Vertex) → length v ≡ length f → own f D v ≡ own f E v
    eq v n = ap (λ t. holds f v && not t) (h v n)

    moved : Exact f E (kept f D)
    moved = (
      p.0,
      λ k x l. (
        λ a. let (v, n, o, q) = (p.1 k x l).0 a in (v, n, sym (eq v n) ∙ o, q),
        λ (v, n, o, q). (p.1 k x l).1 (v, n, eq v n ∙ o, q),
      ),
    )

-- ---- a vertex of its own

own-parts : (f : Cube) (D : Cover) (v : Vertex) → own f D v ≡ true → (holds f v ≡ true) × (held D v ≡ false)
own-parts f D v h = let both : (holds f v ≡ true) × (not (held D v) ≡ true) = and_parts _ _ h in (both.0, not-true _ both.1)

-- what is left has a vertex of f's own
pub own_vertex : (f : Cube) (D : Cover) → Wide (length f) D → 0 < length f → none_left (reduced f D) ≡ false
    → (v : Vertex) × (length v ≡ length f) × (holds f v ≡ true) × (held D v ≡ false)
own_vertex f D w l n = by (live g) refl n
  where
    g : Cube
    g = kept f D

    e : Exact f D g
    e = kept_exact f D w

    by : (t : Bool) → live g ≡ t → none_left (cond t (g ∷ []) []) ≡ false → (v : Vertex) × (length v ≡ length f) × (holds f v ≡ true) × (held D v ≡ false)
    by false _ h = absurd (true≢false h)
    by true a h =
        let (v, _, k) = live_vertex g a in
        let (u, m, o, _) = (e.1 0 (get_or v 0 0) l).0 (holds_part g v 0 k (rw e.0 l)) in
        let mine = own-parts f D u o in (u, m, mine.0, mine.1)

-- where nothing is left, f has none
pub none-own : (f : Cube) (D : Cover) (v : Vertex) → Wide (length f) D → none_left (reduced f D) ≡ true → holds f v ≡ true → held D v ≡ true
none-own f D v w q h = by (live g) refl q (held D v) refl
  where
    g : Cube
    g = kept f D

    long : length g ≡ length f
    long = length-span (length f) (rest f D)

    by : (t : Bool) → live g ≡ t → none_left (cond t (g ∷ []) []) ≡ true → (d : Bool) → held D v ≡ d → d ≡ true
    by true _ z d _ = absurd (true≢false (sym z))
    by false a z true _ = refl
    by false a z false o =
        let mine : held (rest f D) v ≡ true = rest_exact f D v w ∙ and_from _ _ h (not_from_false _ o) in
        let there : holds g v ≡ true =
        holds_parts g v (omega (arith, holds_long f v h, long)) (λ k l. span_value (length f) (rest f D) k v (rest_wide f D) (rw long at l) mine) in
        absurd (true≢false (sym (vertex_live g v there) ∙ a))

pub spare_exact : (f : Cube) (D : Cover) → Wide (length f) D → 0 < length f
    → (none_left (reduced f D) ≡ true) ↔ ((v : Vertex) → length v ≡ length f → holds f v ≡ true → held D v ≡ true)
spare_exact f D w l = (λ q v n h. none-own f D v w q h, λ h. by (none_left (reduced f D)) refl h)
  where
    by : (t : Bool) → none_left (reduced f D) ≡ t → ((v : Vertex) → length v ≡ length f → holds f v ≡ true → held D v ≡ true) → t ≡ true
    by true _ h = refl
    by false q h = let (v, n, a, b) = own_vertex f D w l q in absurd (true≢false (sym (h v n a) ∙ b))

-- ---- the rest of a cube with no empty part

rest_vertex : (C : Cover) (n : ℕ) → Wide n C → Live C → none_left C ≡ false → (v : Vertex) × (length v ≡ n) × (held C v ≡ true)
rest_vertex [] n w l h = absurd (true≢false h)
rest_vertex (c ∷ C) n w l h = let (v, q, k) = live_vertex c l.0 in (v, q ∙ w.0, grind arith)

none-held : (C : Cover) (v : Vertex) → none_left C ≡ true → held C v ≡ false
none-held [] v e = refl
none-held (c ∷ C) v e = absurd (true≢false (sym e))

pub spare_rest : (f : Cube) (D : Cover) → Wide (length f) D → 0 < length f → none_left (reduced f D) ≡ (not (live f) || none_left (rest f D))
spare_rest f D w l = by (live f) (none_left (rest f D)) refl refl
  where
    s : (none_left (reduced f D) ≡ true) ↔ ((v : Vertex) → length v ≡ length f → holds f v ≡ true → held D v ≡ true)
    s = spare_exact f D w l

    by : (t u : Bool) → live f ≡ t → none_left (rest f D) ≡ u → none_left (reduced f D) ≡ (not t || u)
    by false u a b = s.1 (λ v n h. absurd (true≢false (sym (vertex_live f v h) ∙ a)))
    by true true a b = s.1 (λ v n h. give (holds f v) (held D v) (sym (rest_exact f D v w) ∙ none-held (rest f D) v b) h)
      where
        give : (x y : Bool) → (x && not y) ≡ false → x ≡ true → y ≡ true
        give x y p q = grind arith
    by true false a b =
        let (v, n, h) = rest_vertex (rest f D) (length f) (rest_wide f D) (live-rest f D a) b in
        let o = own-parts f D v (sym (rest_exact f D v w) ∙ h) in
        not_so (none_left (reduced f D)) (λ q. true≢false (sym (s.0 q v n o.0) ∙ o.1))
      where
        not_so : (t : Bool) → (t ≡ true → ⊥) → t ≡ false
        not_so true h = absurd (h refl)
        not_so false h = refl
