-- Equations over a space of cells. Each cell has one: its value is its right side, which may read the values of other
-- cells. A table is a value for each cell, `C → V`. The right sides are one function `right` of a table and a cell, and
-- `In` says which cells belong to the space.
use Rattle.std.specs.Prelude.{◌≡◌, ℕ, zero, suc, ◌<◌, Bool, true}

-- the right sides are grounded: each reads a table only at cells of the space that lie less deep
abbrev pub IsGrounded : {C V : Type 0} → (C → Type 0) → (C → ℕ) → ((C → V) → C → V) → Type 0
IsGrounded {C} {V} In depth right =
    (S T : C → V) (c : C) → In c → ((x : C) → In x → depth x < depth c → S x ≡ T x) → right S c ≡ right T c

-- the table solves the equations: each cell of the space has the value of its right side
abbrev pub Solves : {C V : Type 0} → (C → Type 0) → ((C → V) → C → V) → (C → V) → Type 0
Solves {C} In right table = (c : C) → In c → table c ≡ right table c

-- the table after so many rounds: at first each cell has the value `none`, and in a round each takes the value of its
-- right side
abbrev pub round : {C V : Type 0} → V → ((C → V) → C → V) → ℕ → C → V
round none right zero c = none
round none right (suc n) c = right (round none right n) c

-- the table where each cell has the value that it takes in the last of its own number of rounds
abbrev pub table_by_rounds : {C V : Type 0} → V → ((C → V) → C → V) → (C → ℕ) → C → V
table_by_rounds none right rounds c = round none right (rounds c) c

-- each cell of the space has more rounds than its depth
abbrev pub Outlasts : {C : Type 0} → (C → Type 0) → (C → ℕ) → (C → ℕ) → Type 0
Outlasts {C} In rounds depth = (c : C) → In c → depth c < rounds c

-- the space of the cells that pass a test
abbrev pub Passing : {C : Type 0} → (C → Bool) → C → Type 0
Passing test c = test c ≡ true
