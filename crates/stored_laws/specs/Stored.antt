-- The entries of a store as the laws of rules speak of what is stored.
use Rattle.std.specs.Prelude.{◌≡◌, ℕ, ◌==◌, true, ℤ, pos, ◌+ℤ◌, ◌*ℤ◌, List, All, fold, find, option_map}
use Rattle.cube_fixed.specs.declared.value.Value.{Value}
use Rattle.cube_fixed.specs.declared.value.Value.TheVariants.{Num}
use Rattle.cube_space.specs.Layout.{Layout}
use Rattle.cube_space.specs.Cells.{IsCell, is_leaf_cell}
use Rattle.cell_store.specs.declared.entry.Entry.{Entry}
use Rattle.cell_store.specs.Entries.{number_at}
use Rattle.rule_laws.specs.RuleSystem.{Stored}
use Rattle.rule_model.specs.Weights.{weight}

-- what is stored in a cell: the number of its entry, or None where no entry has the cell
unfoldable pub stored_in : List Entry → Stored
stored_in entries cell = option_map (λ entry. entry.number) (find (λ entry. entry.cell == cell) entries)

-- each entry is of a leaf cell
abbrev pub AreLeafEntries : Layout → List Entry → Type 0
AreLeafEntries space entries = All (λ entry. IsCell space entry.cell × (is_leaf_cell space entry.cell ≡ true)) entries

-- each of these cells has in the table what is stored in it, 0 where nothing is
abbrev pub HaveStored : List Entry → (ℕ → Value) → List (ℕ × ℤ) → Type 0
HaveStored entries table cells = All (λ pair. table pair.0 ≡ Num (number_at entries pair.0)) cells

-- the exact sum of the stored numbers, each as often as its cell counts in this one
unfoldable pub sum_of_entries : Layout → ℕ → List Entry → ℤ
sum_of_entries space cell entries =
    fold (λ sum entry. sum +ℤ (weight space cell entry.cell *ℤ entry.number)) (pos 0) entries
