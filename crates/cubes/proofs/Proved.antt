-- The theorems, as specs/Theorems.antt and specs/Examples.antt state them.
use Rattle.std.proofs.Common.{◌≡◌, false, List, [], ◌∷◌, sym, refl, ◌∙◌, arith}
use Rattle.cubes.specs.Cubes.{Vertex, held}
use Rattle.cubes.specs.Tables.{Row, on_rows, all_rows}
use Rattle.cubes.specs.Theorems.{RestExact, RestApart, MeetsExact, CoversExact, OnRowsLawful}
use Rattle.cubes.specs.Examples.{AllRight, WorkedCover}
use Rattle.cubes.proofs.Vertices.{meets_since, meets_vertex, covers-holds, holds-covers}
use Rattle.cubes.proofs.Cuts as cuts
use Rattle.cubes.proofs.Apart as apart
use Rattle.cubes.proofs.Worked as worked

pub rest_exact : RestExact
rest_exact p most U T v e w h =
    let exact = cuts.rest_exact U (all_rows T) v (rw e w) in
    (λ k. (grind arith, grind arith), λ (k, l). grind arith)

pub rest_apart : RestApart
rest_apart = apart.rest_apart

pub meets_exact : MeetsExact
meets_exact p A B e f = (
  λ h. let (v, l, k, m) = meets_vertex A B (e ∙ sym f) h in (v, l ∙ e, k, m),
  λ (v, l, k, m). meets_since A B v k m,
)

pub covers_exact : CoversExact
covers_exact p A B e f l = (
  λ h v n k. covers-holds A B v (e ∙ sym f) h k,
  λ h. holds-covers A B (e ∙ sym f) l (λ v n k. h v (n ∙ f) k),
)

-- what no row holds no ON row holds
on_off : (T : List Row) (v : Vertex) → held (all_rows T) v ≡ false → held (on_rows T) v ≡ false
on_off [] v h = refl
on_off (r ∷ T) v h = grind (arith, on_off T v)

pub on_rows_lawful : OnRowsLawful
on_rows_lawful p most U T v h = (λ (on, dc). on, λ (in', out). on_off T v out)

pub all_right : AllRight
all_right = (refl, (refl, tt))

pub worked_cover : WorkedCover
worked_cover = worked.worked
