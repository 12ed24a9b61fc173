-- Items in the order of their cells, where `cell` gives the cell of an item.
use Rattle.std.specs.Prelude.{◌≡◌, ℕ, nat_lt, nat_le, ◌==◌, Bool, if◌then◌else◌, Option, None, Some}
use Rattle.std.specs.Prelude.{List, [], ◌∷◌, ◌++◌, map, filter, find, fold}
use Rattle.std.specs.List.Sorted.{IsStrictlyIncreasing}

-- the cells of the items
abbrev pub cells_by : {X : Type 0} → (X → ℕ) → List X → List ℕ
cells_by cell items = map cell items

-- each cell is above the one before it
abbrev pub IsRising : {X : Type 0} → (X → ℕ) → List X → Type 0
IsRising cell items = IsStrictlyIncreasing (cells_by cell items)

-- the items below, at or above, at or below, and above this cell
abbrev pub below_by : {X : Type 0} → (X → ℕ) → List X → ℕ → List X
below_by cell items c = filter (λ item. nat_lt (cell item) c) items

abbrev pub at_least_by : {X : Type 0} → (X → ℕ) → List X → ℕ → List X
at_least_by cell items c = filter (λ item. nat_le c (cell item)) items

abbrev pub up_to_by : {X : Type 0} → (X → ℕ) → List X → ℕ → List X
up_to_by cell items c = filter (λ item. nat_le (cell item) c) items

abbrev pub above_by : {X : Type 0} → (X → ℕ) → List X → ℕ → List X
above_by cell items c = filter (λ item. nat_lt c (cell item)) items

-- the first item at or above this cell
abbrev pub first_from : {X : Type 0} → (X → ℕ) → List X → ℕ → Option X
first_from cell items c = find (λ item. nat_le c (cell item)) items

-- the last item has this cell
abbrev pub EndsAt : {X : Type 0} → (X → ℕ) → ℕ → List X → Type 0
EndsAt cell last [] = ⊥
EndsAt cell last (item ∷ []) = cell item ≡ last
EndsAt cell last (item ∷ next ∷ items) = EndsAt cell last (next ∷ items)

-- the item of a write: none where it takes its cell out
abbrev pub kept_by : {X : Type 0} → (X → Bool) → X → List X
kept_by is_gone item = if is_gone item then [] else item ∷ []

-- the items with this one at its cell
abbrev pub with_entry : {X : Type 0} → (X → ℕ) → (X → Bool) → List X → X → List X
with_entry cell is_gone items item =
    below_by cell items (cell item) ++ (kept_by is_gone item ++ above_by cell items (cell item))

-- the items with these, one after another
abbrev pub after_entries : {X : Type 0} → (X → ℕ) → (X → Bool) → List X → List X → List X
after_entries cell is_gone items more = fold (λ before item. with_entry cell is_gone before item) items more

-- the last of the items at this cell
abbrev pub last_at : {X : Type 0} → (X → ℕ) → List X → ℕ → Option X
last_at cell items c = fold (λ before item. if cell item == c then Some item else before) None items

-- the last item at each cell is the same
abbrev pub HaveSameLast : {X : Type 0} → (X → ℕ) → List X → List X → Type 0
HaveSameLast cell items others = (c : ℕ) → last_at cell items c ≡ last_at cell others c
