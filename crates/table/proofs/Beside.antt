-- Cubes with the cards beside them, taken off one by one.
use Rattle.std.proofs.Common.{◌≡◌, ℕ, zero, suc, ◌≤◌, cond, ◌⊎◌, List, [], ◌∷◌, map, length, take, drop, refl, ap, ◌∙◌, ap₂, inl, inr, arith}
use Rattle.std.proofs.lemmas.List.{take-map, drop-map}
use Rattle.cubes.specs.Areas.{cubes}
use Rattle.cubes.specs.Tables.{Row}
use Rattle.table.specs.declared.card.Card.{Card}
use Rattle.table.specs.Cards.{is_on, rows_of, on_cubes}

-- the rows
abbrev pub rows_beside : {X : Type 0} → (X → ℕ) → List (List X) → List Card → List Row
rows_beside s [] cs = []
rows_beside s (c ∷ C) [] = []
rows_beside s (c ∷ C) (k ∷ cs) = record { cube = map s c; on = is_on k } ∷ rows_beside s C cs

pub rows_is : {X : Type 0} (s : X → ℕ) (p n : ℕ) (xs : List X) (cs : List Card) → n ≤ length cs → rows_of p n (map s xs) cs ≡ rows_beside s (cubes p n xs) cs
rows_is s p zero xs cs h = refl
rows_is s p (suc n) xs [] h = absurd (omega arith)
rows_is s p (suc n) xs (k ∷ cs) h =
    ap₂ (λ (A : List ℕ) (T : List Row). record { cube = A; on = is_on k } ∷ T) (take-map s p xs)
    (ap (λ ts. rows_of p n ts cs) (drop-map s p xs) ∙ rows_is s p n (drop p xs) cs (omega arith))

-- the ON rows among them, as they lie in the area
abbrev pub on_beside : {X : Type 0} → List (List X) → List Card → List (List X)
on_beside [] cs = []
on_beside (c ∷ C) [] = []
on_beside (c ∷ C) (k ∷ cs) = cond (is_on k) (c ∷ on_beside C cs) (on_beside C cs)

pub on_is : {X : Type 0} (p n : ℕ) (xs : List X) (cs : List Card) → n ≤ length cs → on_cubes p n xs cs ≡ on_beside (cubes p n xs) cs
on_is p zero xs cs h = refl
on_is p (suc n) xs [] h = absurd (omega arith)
on_is p (suc n) xs (k ∷ cs) h = ap (λ C. cond (is_on k) (take p xs ∷ C) C) (on_is p n (drop p xs) cs (omega arith))

-- ---- where no cube or no card is left

pub rows_end : {X : Type 0} (s : X → ℕ) (C : List (List X)) (cs : List Card) → (C ≡ []) ⊎ (length cs ≡ 0) → rows_beside s C cs ≡ []
rows_end s [] cs h = refl
rows_end s (c ∷ C) [] h = refl
rows_end s (c ∷ C) (k ∷ cs) (inl h) = absurd (omega (arith, ap length h))
rows_end s (c ∷ C) (k ∷ cs) (inr h) = absurd (omega arith)

pub on_end : {X : Type 0} (C : List (List X)) (cs : List Card) → (C ≡ []) ⊎ (length cs ≡ 0) → on_beside C cs ≡ []
on_end [] cs h = refl
on_end (c ∷ C) [] h = refl
on_end (c ∷ C) (k ∷ cs) (inl h) = absurd (omega (arith, ap length h))
on_end (c ∷ C) (k ∷ cs) (inr h) = absurd (omega arith)
