-- How the feeders of a cube are filed: by the cube that they feed, and by a leaf that their target names from every
-- cell.
use Rattle.std.specs.Prelude.{ℕ, suc, ◌==◌, Bool, true, false, ◌&&◌, if◌then◌else◌, Option, None, Some, List, [], ◌∷◌}
use Rattle.std.specs.Prelude.{length, filter, nat_lt, slice_get, slice_index_or}
use Rattle.std.specs.List.{range_with_len}
use Rattle.std.specs.Option.{option_map_or}
use Rattle.dim_core.specs.Outline.{Outline}
use Rattle.cube_space.specs.Layout.{Layout, axes, sizes_of}
use Rattle.cube_space.specs.Cells.{is_leaf}
use Rattle.rule_laws.specs.declared.reference.Arg.{Arg}
use Rattle.rule_laws.specs.declared.reference.Arg.TheVariants.{Fixed, Moved}
use Rattle.rule_model.specs.declared.filed.FixedLeaf.{FixedLeaf}
use Rattle.rule_model.specs.declared.rules.Feeder.{Feeder}

-- whether an element of the dimension at this place is a leaf
abbrev pub is_leaf_at : List Outline → ℕ → ℕ → Bool
is_leaf_at dimensions dim element = option_map_or (λ d. is_leaf d element) (slice_get dimensions dim) false

-- of a leaf and another, if there is one, that of the dimension with more elements, and the first where both have as
-- many; these are the sizes of the dimensions
abbrev pub wider : List ℕ → FixedLeaf → Option FixedLeaf → FixedLeaf
wider sizes leaf None = leaf
wider sizes leaf (Some other) = if nat_lt (slice_index_or sizes leaf.dim 0) (slice_index_or sizes other.dim 0)
    then other else leaf

-- of the leaves that these arguments, which begin at this dimension, name from every cell, that of the dimension with
-- the most elements, and the first of these where several have as many
abbrev pub widest_leaf : List Outline → ℕ → List Arg → Option FixedLeaf
widest_leaf dimensions dim [] = None
widest_leaf dimensions dim (Fixed element ∷ args) = if is_leaf_at dimensions dim element
    then Some (wider (sizes_of dimensions) (record { dim = dim; element = element })
    (widest_leaf dimensions (suc dim) args)) else widest_leaf dimensions (suc dim) args
widest_leaf dimensions dim (Moved from to ∷ args) = widest_leaf dimensions (suc dim) args

-- the leaf that a feeder is filed by: dimensions with many elements tell feeders apart best
abbrev pub leaf_of : Layout → Feeder → Option FixedLeaf
leaf_of space feeder = widest_leaf (axes space feeder.target.cube) 0 feeder.target.args

-- whether both are the same leaf, or none
abbrev pub is_same_leaf : Option FixedLeaf → Option FixedLeaf → Bool
is_same_leaf None None = true
is_same_leaf None (Some other) = false
is_same_leaf (Some leaf) None = false
is_same_leaf (Some leaf) (Some other) = (leaf.dim == other.dim) && (leaf.element == other.element)

-- whether the feeder at this place of these feeds this cube and is filed by this leaf, or by none
abbrev pub is_filed : Layout → List Feeder → ℕ → Option FixedLeaf → ℕ → Bool
is_filed space feeders cube leaf place =
    option_map_or (λ (f : Feeder). (f.target.cube == cube) && is_same_leaf (leaf_of space f) leaf)
    (slice_get feeders place) false

-- the places of those feeders
abbrev pub filed_places : Layout → List Feeder → ℕ → Option FixedLeaf → List ℕ
filed_places space feeders cube leaf =
    filter (is_filed space feeders cube leaf) (range_with_len 0 (length feeders))
