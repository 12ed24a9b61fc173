-- The tree of a set of cells.
use Rattle.std.specs.Prelude.{◌≡◌, ℕ, Bool, List, length, map}
use Rattle.std.specs.List.Sorted.{IsStrictlyIncreasing}
use Rattle.cell_store.specs.declared.member.Member.{Member}
use Rattle.cell_store.specs.Inside.Order.{cells_by}
use Rattle.cell_store.specs.Inside.Trees.{Tree, all_entries, IsTree}

-- the cell of a member, and whether it takes that out
abbrev pub member_cell : Member → ℕ
member_cell member = member.cell

abbrev pub is_removed : Member → Bool
is_removed member = member.gone

-- these cells as members
abbrev pub members_of : Bool → List ℕ → List Member
members_of gone cells = map (λ cell. record { cell = cell; gone = gone }) cells

-- the cells of the members of a tree
abbrev pub tree_cells : Tree Member → List ℕ
tree_cells tree = cells_by member_cell (all_entries tree)

-- the tree holds the cells, of which there are `len`
pub record IsKept (tree : Tree Member) (len : ℕ) : Type 0 where
  pub sized : IsTree member_cell tree
  pub rising : IsStrictlyIncreasing (tree_cells tree)
  pub count : len ≡ length (tree_cells tree)
