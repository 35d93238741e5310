-- The cube at a place, copied to the next place.
use Rattle.std.proofs.Common.{◌≡◌, ℕ, ◌+◌, ◌*◌, List, ◌++◌, take, drop, sym, ap, ◌∙◌}
use lib.Seq.{paste}
use Rattle.std.proofs.lemmas.List.{append_assoc, drop-drop}
use Rattle.cubes.specs.Areas.{cube_at, put_at}
use Rattle.cubes.proofs.Areas.{next_place}

pub copied : {X : Type 0} (p t n : ℕ) (xs : List X) → n ≡ p → paste xs (t * p + p) (drop (t * p) xs) n ≡ put_at p (t + 1) (cube_at p t xs) xs
copied p t n xs e =
    ap (paste xs (t * p + p) (drop (t * p) xs)) e
    ∙ append_assoc (take (t * p + p) xs) (take p (drop (t * p) xs)) (drop (t * p + p + p) xs)
    ∙ ap (λ l. take (t * p + p) xs ++ (cube_at p t xs ++ l)) (sym (drop-drop p (t * p + p) xs))
    ∙ ap (λ m. take m xs ++ (cube_at p t xs ++ drop p (drop m xs))) (sym (next_place t p))
