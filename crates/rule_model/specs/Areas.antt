-- Which cells an area has: those that a statement is for, and those that a feeder feeds from.
use Rattle.std.specs.Prelude.{ℕ, ◌==◌, Bool, true, ◌&&◌, Option, Some, None, List}
use Rattle.std.specs.List.{list_any, list_all, zip}
use Rattle.dim_core.specs.Outline.{Outline}
use Rattle.dim_weights.specs.Coefficients.{coef}
use Rattle.dim_weights.specs.Table.{is_nonzero}
use Rattle.cube_space.specs.Layout.{Layout, axes}
use Rattle.cube_space.specs.Cells.{cube_of, elements_of, is_leaf_cell}
use Rattle.rule_model.specs.declared.area.Area.{Area}

-- whether an element is in a set of an area: one that lists its elements, or one that has all
abbrev pub in_set : Option (List ℕ) → ℕ → Bool
in_set None element = true
in_set (Some listed) element = list_any (λ e. e == element) listed

-- whether each of these elements is in the set of its dimension
unfoldable pub in_sets : List (Option (List ℕ)) → List ℕ → Bool
in_sets sets elements = list_all (λ p. in_set p.0 p.1) (zip sets elements)

-- whether a cell, of the cube that the area speaks of, is in the area
abbrev pub in_area : Layout → Area → ℕ → Bool
in_area space area cell = in_sets area.sets (elements_of space cell)

-- whether a leaf is among the sources of a feeder in a dimension: a listed element means the leaves that count in
-- it, and a leaf counts in itself alone
abbrev pub in_source_set : Outline → Option (List ℕ) → ℕ → Bool
in_source_set dimension None leaf = true
in_source_set dimension (Some listed) leaf = list_any (λ e. is_nonzero (coef dimension e leaf)) listed

unfoldable pub in_source_sets : List Outline → List (Option (List ℕ)) → List ℕ → Bool
in_source_sets dimensions sets elements =
    list_all (λ p. in_source_set p.0 p.1.0 p.1.1) (zip dimensions (zip sets elements))

-- whether a cell is a source of a feeder of this cube with this area: a leaf cell that the area means
abbrev pub is_source : Layout → ℕ → Area → ℕ → Bool
is_source space cube area cell =
    (cube_of space cell == cube) && is_leaf_cell space cell
    && in_source_sets (axes space cube) area.sets (elements_of space cell)
