-- Lists that stand one after another in one list.
use Rattle.std.specs.Prelude.{◌≡◌, ◌≤◌, ℕ, List, [], ◌∷◌, map, slice_range}

-- where each part begins and ends: the first begins at `start`, and each other one where the one before it ends
abbrev pub bounds_from : ℕ → List ℕ → List (ℕ × ℕ)
bounds_from start [] = []
bounds_from start (end ∷ ends) = (start, end) ∷ bounds_from end ends

-- the parts of a list that end there
abbrev pub parts : {X : Type 0} → List ℕ → List X → List (List X)
parts ends items = map (λ bounds. slice_range items bounds.0 bounds.1) (bounds_from 0 ends)

-- no part ends before it begins, and the last ends at `size`
abbrev pub EndAt : ℕ → List ℕ → ℕ → Type 0
EndAt start [] size = start ≡ size
EndAt start (end ∷ ends) size = (start ≤ end) × EndAt end ends size
