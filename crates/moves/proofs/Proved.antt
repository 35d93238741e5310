-- The theorems, as specs/Theorems.antt and specs/Examples.antt state them.
use Rattle.std.proofs.Common.{◌≡◌, ℕ, true, false, List, [], ◌∷◌, ◌++◌, length, get_or, refl, ◌∙◌, arith}
use Rattle.std.specs.List.{AllByRecursion}
use Rattle.std.proofs.ByRecursion.{all-has, All-weaker}
use Rattle.cubes.specs.Cubes.{Cube, Cover, live}
use Rattle.cubes.specs.Tables.{Row, dc_rows, Prime}
use Rattle.orders.specs.Rules.{Rule, reversed}
use Rattle.orders.proofs.Bests.{best-first}
use Rattle.moves.specs.Items.{Item, no_item, shared, weighed, Act, taking, started}
use Rattle.moves.specs.Expand.{grown, spared, expanding}
use Rattle.moves.specs.Drop.{dropping}
use Rattle.moves.specs.Calls.{expand, drop_spare}
use Rattle.moves.specs.Sound.{Dropped}
use Rattle.moves.specs.Standing.{Sized, Standing}
use Rattle.moves.specs.Theorems.{Differing, FirstFirst, PlacesDiffer, EveryTaken, StepsEnough, NoneWaits, BesideMisses, BesideOnce, StartedAt, ListSplits, SpareExact, SpareRest, KeptExact, KeptAlike, OthersChosen, VeiledRest, ExpandKeeps, ExpandAlive, DropKeeps, FinishKeeps, OnStands, StandingApart, CallsStand, ExpandPrime, DropIrredundant, FinishEnds}
use Rattle.moves.specs.Examples.{AllRight, WorkedProper}
use Rattle.moves.proofs.Vertices.{covers-live}
use Rattle.moves.proofs.Taking as items
use Rattle.moves.proofs.Kept as measure
use Rattle.moves.proofs.Expanded as expands
use Rattle.moves.proofs.Dropped as drops
use Rattle.moves.proofs.Links as links
use Rattle.moves.proofs.Standing as stands

pub first_first : FirstFirst
first_first test B L law =
    best-first B law (λ i. (get_or L i no_item).weight) (λ i. (get_or L i no_item).place) (λ i. test (get_or L i no_item)) (length L)

-- ---- during a call

-- each act keeps the places apart, so they differ after any number of steps
differing : (B : Rule) (act : Act) → ((X : List Item) (f : Item) (Y : List Item) → f.taken ≡ false → items.Once (X ++ f ∷ Y) → items.Once (act X f Y))
    → (n : ℕ) (C : Cover) → Differing (taking n B act (started C))
differing B act h n C = items.differ _ (items.taking-keeps B act items.Once h n (started C) (items.once_started C))

pub places_differ : PlacesDiffer
places_differ n U R C D B = (
  differing B (expanding U R) (expands.expanding_once U R) n C,
  differing B (dropping D) (drops.dropping_once D) n C,
)

pub every_taken : EveryTaken
every_taken U R C D B = (expands.expanding-taken U R C B, drops.dropping-taken C D B)

abbrev any_list : List Item → Type 0
any_list L = Unit {0}

any_kept : (act : Act) (X : List Item) (f : Item) (Y : List Item) → f.taken ≡ false → any_list (X ++ f ∷ Y) → any_list (act X f Y)
any_kept act X f Y _ _ = tt

pub steps_enough : StepsEnough
steps_enough m U R C D B = (
  items.taking-enough B (expanding U R) any_list (any_kept (expanding U R)) (expands.expanding_less U R any_list) (length C) m (started C) tt (items.waits-started C),
  items.taking-enough B (dropping D) any_list (any_kept (dropping D)) (drops.dropping_less D any_list) (length C) m (started C) tt (items.waits-started C),
)

pub none_waits : NoneWaits
none_waits n B act L h = items.none_stays B act n L h

pub beside_misses : BesideMisses
beside_misses k f r e l = (links.meets-misses f r e, links.beside_misses k f r e l)

pub beside_once : BesideOnce
beside_once = links.beside_once

pub started_at : StartedAt
started_at = items.get_or-started

pub list_splits : ListSplits
list_splits = items.split

-- ---- what is left of a cube

pub spare_exact : SpareExact
spare_exact = measure.spare_exact

pub spare_rest : SpareRest
spare_rest = measure.spare_rest

pub kept_exact : KeptExact
kept_exact = measure.kept_exact

pub kept_alike : KeptAlike
kept_alike = measure.kept_alike

pub others_chosen : OthersChosen
others_chosen = links.others_chosen

pub veiled_rest : VeiledRest
veiled_rest = links.veiled_rest

-- ---- the calls

all_unit : (C : Cover) → AllByRecursion (λ _. Unit {0}) C
all_unit [] = tt
all_unit (c ∷ C) = (tt, all_unit C)

pub expand_keeps : ExpandKeeps
expand_keeps p U R C B eU wR w i a = (expands.expanded p U R C (λ _. Unit {0}) eU wR (λ _ _ _ _ _. tt) B w i a (all_unit C)).0

pub expand_alive : ExpandAlive
expand_alive p U R C B eU wR w i a l = (expands.expanded p U R C (λ c. live c ≡ true) eU wR covers-live B w i a l).1

pub drop_keeps : DropKeeps
drop_keeps p C D B pos w wD = drops.dropped p C D pos wD B w

pub finish_keeps : FinishKeeps
finish_keeps p U R C D B pos eU wR wD w i a =
    let E : Cover = expand B U R C in
    let e = expand_keeps p U R C B eU wR w i a in
    let d = drop_keeps p E D _ pos e.wide wD in
    let still = λ (P : Cube → Type 0) (h : AllByRecursion P E). All-weaker _ P (λ c q. all-has P E c h q) _ d.among in
    record {
      wide = d.wide;
      alive = d.alive;
      within = still _ e.within;
      apart = still _ e.apart;
      prime = still _ e.prime;
      needed = d.needed;
      keeps = λ v h o. d.same v o ∙ e.keeps v h;
      fewer = omega (arith, e.fewer, d.fewer);
    }

-- ---- in terms of care and off vertices

pub on_stands : OnStands
on_stands p most U T t = stands.on_stands p most U T t

pub standing_apart : StandingApart
standing_apart p most U T R C s = stands.standing_apart p most U T R C s

expand_stands : (p most : ℕ) (U : Cube) (T : List Row) (R C : Cover) (B : Rule) → Standing p most U T R C → Standing p most U T R (expand B U R C)
expand_stands p most U T R C B s =
    let a = standing_apart p most U T R C s in
    let e = expand_keeps p U R C B s.table.parts s.off_wide s.wide s.within a in
    stands.still_stands p most U T R C s (expand B U R C) e.wide
    (expand_alive p U R C B s.table.parts s.off_wide s.wide s.within a s.alive) e.within e.apart (λ v h _. e.keeps v h)

dropped : (p most : ℕ) (U : Cube) (T : List Row) (R C : Cover) (B : Rule) → Standing p most U T R C → Dropped p (dc_rows T) C (drop_spare B (dc_rows T) C)
dropped p most U T R C B s = drop_keeps p C (dc_rows T) B s.table.one s.wide (stands.all_dc (λ c. length c ≡ p) T s.table.wide)

drop_stands : (p most : ℕ) (U : Cube) (T : List Row) (R C : Cover) (B : Rule) → Standing p most U T R C → Standing p most U T R (drop_spare B (dc_rows T) C)
drop_stands p most U T R C B s =
    let d = dropped p most U T R C B s in
    let still = λ (P : Cube → Type 0) (h : AllByRecursion P C). All-weaker _ P (λ c q. all-has P C c h q) _ d.among in
    stands.still_stands p most U T R C s (drop_spare B (dc_rows T) C) d.wide d.alive (still _ s.within)
    (still _ (standing_apart p most U T R C s)) (λ v h o. d.same v o ∙ h)

pub calls_stand : CallsStand
calls_stand p most U T R C B s =
    let e = expand_stands p most U T R C B s in
    (e, drop_stands p most U T R C B s, drop_stands p most U T R (expand B U R C) (reversed B) e)

pub expand_prime : ExpandPrime
expand_prime p most U T R C B s =
    let a = standing_apart p most U T R C s in
    stands.prime_stands p most U T R (expand B U R C) (expand_stands p most U T R C B s)
    (expand_keeps p U R C B s.table.parts s.off_wide s.wide s.within a).prime

pub drop_irredundant : DropIrredundant
drop_irredundant p most U T R C B s =
    stands.needed_stands p most U T R (drop_spare B (dc_rows T) C) (drop_stands p most U T R C B s) (dropped p most U T R C B s).needed

pub finish_ends : FinishEnds
finish_ends p most U T R C B s =
    let E : Cover = expand B U R C in
    let e = expand_stands p most U T R C B s in
    let d = dropped p most U T R E (reversed B) e in (
      All-weaker _ (Prime p most U T) (λ c q. all-has (Prime p most U T) E c (expand_prime p most U T R C B s) q) _ d.among,
      drop_irredundant p most U T R E (reversed B) e,
    )

-- ---- worked cases

pub all_right : AllRight
unfolding expand grown spared drop_spare shared weighed
all_right = (refl, (refl, (refl, (refl, (refl, (refl, (refl, (refl, (refl, tt)))))))))

pub worked_proper : WorkedProper
worked_proper =
    record {
      parts = refl;
      one = omega arith;
      sizes = (size, (size, (size, tt)));
      wide = (refl, (refl, (refl, (refl, tt))));
      alive = (refl, (refl, (refl, (refl, tt))));
      within = (refl, (refl, (refl, (refl, tt))));
    }
  where
    size : Sized 2 3
    size = (2, omega arith, omega arith, refl)
