-- Cubes of a solution that meet the off list, where nothing of the kind should be.
use Rattle.std.specs.Prelude.{ℕ, suc, cond, [], ◌∷◌, Some, None, Ok, Err, Option}
use Rattle.faults.specs.declared.Cause.TheVariants.{Foreign}
use Rattle.cubes.specs.Cubes.{Cube, Cover, meets}
use Rattle.table.specs.Filling.{Verdict}

-- the first cube of the list that f meets, the first of them being number j
abbrev pub first_met : ℕ → Cube → Cover → Option ℕ
first_met j f [] = None
first_met j f (r ∷ R) = cond (meets f r) (Some j) (first_met (suc j) f R)

-- cube i meets the off cube that is named, or else what the others say
abbrev pub foreign_by : ℕ → Option ℕ → Verdict → Verdict
foreign_by i (Some j) v = Err (Foreign i j)
foreign_by i None v = v

-- the first cube that meets a cube of the off list R, the first of them being number i, with the first cube of R that it meets
abbrev pub foreign_verdict : ℕ → Cover → Cover → Verdict
foreign_verdict i R [] = Ok tt
foreign_verdict i R (c ∷ C) = foreign_by i (first_met 0 c R) (foreign_verdict (suc i) R C)
