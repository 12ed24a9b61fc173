use Rattle.std.proofs.Common.{◌≡◌, ◌<◌, ℕ, false}
use Rattle.std.specs.Prelude.{slice_get, Some}
use Rattle.dim_name.specs.Name.{is_same_name}
use Rattle.dim_core.specs.Outline.{Outline}
use Rattle.cube_space.specs.Layout.{axes}
use Rattle.cube_space.proofs.axes.axis_called.Given as goal

-- none of the dimensions so far has the name
abbrev pub invariant-loop-place : goal.invariant-loop-place
invariant-loop-place l = (k : ℕ) → k < l.place → (d : Outline) → slice_get (axes l.space l.cube) k ≡ Some d → is_same_name l.name d.name ≡ false
