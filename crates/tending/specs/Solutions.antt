-- Solutions while a call runs. Here s gives the set of a part.
use Rattle.std.specs.Prelude.{◌≡◌, ℕ, ◌*◌, ◌≤◌, List, map, length, drop}
use Rattle.cubes.specs.Areas.{cubes, cube_at}
use Rattle.cubes.specs.Cubes.{Cube, Cover}
use Rattle.moves.specs.Items.{Item}
use Rattle.tending.specs.declared.solution.Solution.{Solution}
use Rattle.tending.specs.Items.{items_of}

-- the cubes that are left
abbrev pub left : {X : Type 0} → (X → ℕ) → Solution X → Cover
left s S = cubes S.p S.n (map s S.cubes.now)

-- the cube at place i
abbrev pub cube_left : {X : Type 0} → (X → ℕ) → ℕ → Solution X → Cube
cube_left s i S = cube_at S.p i (map s S.cubes.now)

-- the items that are left
abbrev pub items : {X : Type 0} → (X → ℕ) → Solution X → List Item
items s S = items_of S.p S.n (map s S.cubes.now) S.cards.now

-- what every step keeps: the areas with their lengths, how many parts a cube has, and with how many cubes the call began; and no cube more is left
pub record SameAreas {X : Type 0} (S T : Solution X) : Type 0 where
  pub cubes : T.cubes.ghost_name ≡ S.cubes.ghost_name
  pub cards : T.cards.ghost_name ≡ S.cards.ghost_name
  pub parts : length T.cubes.now ≡ length S.cubes.now
  pub length : length T.cards.now ≡ length S.cards.now
  pub p : T.p ≡ S.p
  pub count : T.count ≡ S.count
  pub fewer : T.n ≤ S.n

-- what a step leaves alone: the parts behind the cubes that were left, and the cards behind theirs
pub record BehindStays {X : Type 0} (S T : Solution X) : Type 0 where
  pub cubes : drop (S.n * S.p) T.cubes.now ≡ drop (S.n * S.p) S.cubes.now
  pub cards : drop S.n T.cards.now ≡ drop S.n S.cards.now
