-- Which statements speak of a leaf cell below a cell, dimension by dimension.
use Rattle.std.specs.Prelude.{ℕ, Bool, true, false, ◌&&◌, Option, List, [], ◌∷◌, is_some}
use Rattle.std.specs.List.{list_any}
use Rattle.dim_core.specs.Outline.{Outline}
use Rattle.dim_weights.specs.Table.{leaves_of}
use Rattle.rule_model.specs.Areas.{in_set}
use Rattle.rule_model.specs.declared.rules.Statement.{Statement}

-- whether a leaf that counts in an element is in a set
abbrev pub meets_in : Outline → ℕ → Option (List ℕ) → Bool
meets_in d element set = list_any (λ pair. in_set set pair.0) (leaves_of d element)

-- whether that is so in each dimension
abbrev pub meets : List Outline → List ℕ → List (Option (List ℕ)) → Bool
meets [] at sets = true
meets (d ∷ ds) [] sets = false
meets (d ∷ ds) (e ∷ at) [] = false
meets (d ∷ ds) (e ∷ at) (set ∷ sets) = meets_in d e set && meets ds at sets

-- whether a statement has an N part, and its area meets the leaf cells below the cell of these elements
abbrev pub speaks_below : List Outline → List ℕ → Statement → Bool
speaks_below ds at statement = is_some statement.leaf && meets ds at statement.area.sets
