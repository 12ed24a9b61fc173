use Rattle.std.proofs.Common.{◌≡◌, ℕ, ◌<◌, ◌≤◌, None, length, get_or}
use Rattle.cube_space.specs.declared.run.Run.{Run}
use Rattle.cube_space.specs.Cells.{first_cell}
use Rattle.cube_space.specs.Inside.Kept.{IsRunOf}
use Rattle.cube_space.specs.Refusal.{cube_fault}
use Rattle.cube_space.proofs.run.runs.Given as goal

-- no cube so far has a fault, and each has its run
abbrev pub invariant-loop-cube : goal.invariant-loop-cube
invariant-loop-cube l = record {
  before : (c : ℕ) → c < l.cube → cube_fault (record { dimensions = l.dimensions; cubes = l.cubes }) c ≡ None;
  first : l.first ≡ first_cell (record { dimensions = l.dimensions; cubes = l.cubes }) l.cube;
  within : l.first ≤ 4611686018427387904;
  paired : length l.runs.items ≡ l.cube;
  run : (c : ℕ) (d : Run) → c < l.cube → IsRunOf (record { dimensions = l.dimensions; cubes = l.cubes }) c (get_or l.runs.items c d);
}
