-- What the fields of a space keep.
use Rattle.std.specs.Prelude.{◌≡◌, ℕ, suc, ◌+◌, ◌<◌, List, length, slice_index_or}
use Rattle.cube_space.specs.declared.run.Run.{Run}
use Rattle.cube_space.specs.Radix.{product}
use Rattle.cube_space.specs.Layout.{Layout, sizes}
use Rattle.cube_space.specs.Cells.{IsSpace, first_cell}

-- the run of a cube has its cells' numbers and the sizes of its dimensions
pub record IsRunOf (layout : Layout) (cube : ℕ) (run : Run) : Type 0 where
  pub first : run.first ≡ first_cell layout cube
  pub end : run.end ≡ first_cell layout (suc cube)
  pub sizes : run.sizes ≡ sizes layout cube

-- the run of a cube with these sizes, from this number on
pub record IsRunFrom (sizes : List ℕ) (first : ℕ) (run : Run) : Type 0 where
  pub begins : run.first ≡ first
  pub ends : run.end ≡ first + product sizes
  pub sized : run.sizes ≡ sizes

-- the runs of a space, by cube
pub record IsNumbered (layout : Layout) (runs : List Run) : Type 0 where
  pub valid : IsSpace layout
  pub paired : length runs ≡ length layout.cubes
  pub run : (cube : ℕ) (d : Run) → cube < length runs → IsRunOf layout cube (slice_index_or runs cube d)
