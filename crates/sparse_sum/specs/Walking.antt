-- A walk over the stored or fed leaf cells below a cell.
use Rattle.std.specs.Prelude.{ℕ, ℤ, List}
use Rattle.cube_fixed.specs.Total.{Total, no_terms}
use Rattle.cube_space.specs.Layout.{Layout}
use Rattle.sparse_sum.specs.Live.{live_from}

-- the cell that is walked, the number from which on leaf cells are still to come, and the terms that were added so far
pub record Progress : Type 0 where
  pub cell : ℕ
  pub from : ℕ
  pub total : Total

-- at the begin of a walk
abbrev pub begun : ℕ → Progress
begun cell = record { cell = cell; from = 0; total = no_terms }

-- the leaf cells that are still to come, each with its weight
abbrev pub left : Layout → List ℕ → List ℕ → Progress → List (ℕ × ℤ)
left space stored fed walk = live_from space stored fed walk.cell walk.from
