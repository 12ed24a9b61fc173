-- What an element adds to the cell that is read more than to its own cell, where the kinds of both are left out;
-- and the cube of what is read.
use Rattle.std.specs.Prelude.{ℕ, ◌==◌, Bool, true, if◌then◌else◌, ℤ, pos, ◌-ℤ◌, neg_ℤ, Option, Some, None}
use Rattle.std.specs.Prelude.{List, length, slice_index_or}
use Rattle.dim_weights.specs.Table.{is_nonzero}
use Rattle.cube_space.specs.Layout.{axes, sizes}
use Rattle.rule_laws.specs.Meaning.{Precedent, Named, Components}
use Rattle.rule_model.specs.declared.area.Area.{Area}
use Rattle.rule_model.specs.BoundModel.{BoundModel}
use Rattle.order_laws.specs.Greatest.{plus, greatest, only}
use Rattle.order_laws.specs.Scales.{scale_of, moved_sum, parts_in, greatest_in}

-- what a component adds more than the element that it is a component of, where its weight isn't 0
abbrev pub component_excess : (ℕ → ℕ) → ℕ → ℕ × ℤ → Option ℤ
component_excess worth element part = only (is_nonzero part.1) (Some (pos (worth part.0) -ℤ pos (worth element)))

abbrev pub components_excess : (ℕ → ℕ) → ℕ → List (ℕ × ℤ) → Option ℤ
components_excess worth element parts =
    greatest (λ k. component_excess worth element (slice_index_or parts k (0, pos 0))) (length parts)

-- what an element of a dimension of the source adds to the cell that is read more than to its own cell
abbrev pub excess : BoundModel → ℕ → ℕ → Precedent → ℕ → ℕ → Option ℤ
excess model cube place (Named r) i element =
    plus (moved_sum (scale_of model r.cube true place).worth 0 r.args i element)
    (Some (neg_ℤ (pos ((scale_of model cube true place).worth i element))))
excess model cube place (Components dim) i element = if i == dim
    then components_excess ((scale_of model cube true place).worth dim) element
    (parts_in (axes model.space cube) dim element)
    else Some (pos 0)

-- the greatest excess of the elements of an area in a dimension that pass a test
abbrev pub greatest_by : BoundModel → ℕ → Area → ℕ → Precedent → (ℕ → ℕ → Bool) → ℕ → Option ℤ
greatest_by model cube area place p test i =
    greatest_in (excess model cube place p i) (test i) (slice_index_or (sizes model.space cube) i 0)
    (slice_index_or area.sets i None)

-- the cube of the cells that are read
abbrev pub read_cube : ℕ → Precedent → ℕ
read_cube cube (Named r) = r.cube
read_cube cube (Components dim) = cube
