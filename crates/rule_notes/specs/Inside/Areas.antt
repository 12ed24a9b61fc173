-- Whether an area has another, by the elements of each dimension.
use Rattle.std.specs.Prelude.{ℕ, Bool, Option, Some, None, List, length, slice_index_or}
use Rattle.std.specs.List.{list_all, range_with_len}
use Rattle.cube_space.specs.Layout.{Layout, axes, sizes}
use Rattle.rule_model.specs.declared.area.Area.{Area}
use Rattle.rule_model.specs.Areas.{in_set}

-- the elements of a set of an area in a dimension of this size
abbrev pub elements_in : ℕ → Option (List ℕ) → List ℕ
elements_in size None = range_with_len 0 size
elements_in size (Some listed) = listed

-- whether a set has all elements of another
abbrev pub has_set : ℕ → Option (List ℕ) → Option (List ℕ) → Bool
has_set size outer inner = list_all (in_set outer) (elements_in size inner)

-- the same in the dimension at a place of a cube
abbrev pub has_set_at : Layout → ℕ → Area → Area → ℕ → Bool
has_set_at space cube outer inner dim =
    has_set (slice_index_or (sizes space cube) dim 0) (slice_index_or outer.sets dim None)
    (slice_index_or inner.sets dim None)

-- and in each dimension
unfoldable pub has_area : Layout → ℕ → Area → Area → Bool
has_area space cube outer inner =
    list_all (has_set_at space cube outer inner) (range_with_len 0 (length (axes space cube)))
