-- Entries in pages, under levels of nodes.
use Rattle.std.specs.Prelude.{ℕ, List, length}
use Rattle.cell_store.specs.declared.page.Page.{Page}
use Rattle.cell_store.specs.declared.level.Level.{Level}
use Rattle.cell_store.specs.declared.page.TheConstants.{HALF_PAGE}
use Rattle.cell_store.specs.declared.level.TheConstants.{HALF_LEVEL}
use Rattle.cell_store.specs.Inside.Levels.{level_entries, IsLevel}

abbrev pub Tree : Type 0 → Type 0
Tree E = Level (Level (Level (Level (Level (Page E)))))

abbrev page_entries : {E : Type 0} → Page E → List E
page_entries page = page.entries.items

abbrev page_size : {E : Type 0} → Page E → ℕ
page_size page = length page.entries.items

abbrev level_size : {T : Type 0} → Level T → ℕ
level_size level = length level.nodes.items

-- the entries of a tree, in their order
abbrev pub all_entries : {E : Type 0} → Tree E → List E
all_entries tree = level_entries (level_entries (level_entries (level_entries (level_entries page_entries)))) tree

-- the sizes of a level of pages, and of a level of levels
abbrev IsOfPages : {E : Type 0} → (E → ℕ) → Level (Page E) → Type 0
IsOfPages cell level = IsLevel cell page_entries (λ page. Unit {0}) page_size HALF_PAGE level

abbrev IsOfLevels : {E T : Type 0} → (E → ℕ) → (T → List E) → (Level T → Type 0) → Level (Level T) → Type 0
IsOfLevels cell entries is_sized level = IsLevel cell (level_entries entries) is_sized level_size HALF_LEVEL level

-- the sizes of a tree
abbrev pub IsTree : {E : Type 0} → (E → ℕ) → Tree E → Type 0
IsTree cell tree =
    IsOfLevels cell (level_entries (level_entries (level_entries page_entries)))
    (IsOfLevels cell (level_entries (level_entries page_entries))
    (IsOfLevels cell (level_entries page_entries) (IsOfLevels cell page_entries (IsOfPages cell)))) tree
