-- The cell whose value is explained, and what formulas take there.
use Rattle.std.specs.Prelude.{◌≡◌, ℕ, Bool, true, Option, List, is_some, if◌then◌else◌}
use Rattle.std.specs.Option.{option_map_or}
use Rattle.cube_fixed.specs.declared.value.Value.{Value}
use Rattle.cube_fixed.specs.declared.value.Value.TheVariants.{Num}
use Rattle.cube_fixed.specs.Arithmetic.{zero_value}
use Rattle.cube_space.specs.Cells.{IsCell, is_place, cube_of, elements_of, is_leaf_cell}
use Rattle.cell_values.specs.Reading.{value_on}
use Rattle.cell_versions.specs.Versions.{NumberedVersion}
use Rattle.rule_laws.specs.declared.reference.Reference.{Reference}
use Rattle.rule_laws.specs.RuleSystem.{weighted_sum}
use Rattle.rule_model.specs.BoundModel.{BoundModel}
use Rattle.rule_model.specs.Targets.{target, component_cells, element_at}
use Rattle.rule_model.specs.Weights.{leaves_below}
use Rattle.stored_laws.specs.Stored.{stored_in}
use Rattle.cell_trace.specs.Visits.{Given}
use Rattle.cell_trace.specs.Trace.{Scene, scene_of}

pub record Place : Type 0 where
  pub version : NumberedVersion
  pub cell : ℕ

-- what is known of a cell besides its number
pub record IsOf (model : BoundModel) (cell cube : ℕ) (elements : List ℕ) (is_leaf : Bool) : Type 0 where
  pub is_cell : IsCell model.space cell
  pub own_cube : cube_of model.space cell ≡ cube
  pub own_elements : elements_of model.space cell ≡ elements
  pub placed : is_place model.space cube elements ≡ true
  pub own_kind : is_leaf_cell model.space cell ≡ is_leaf

abbrev pub scene_at : Place → Scene
scene_at p = scene_of p.version.model p.version.stored p.cell

-- the cell that a reference names, and its value
unfoldable pub target_at : Place → Reference → Option ℕ
target_at p r = target p.version.model.space r p.cell

unfoldable pub named_at : Place → Reference → Value
named_at p r = option_map_or (value_on p.version) (target_at p r) zero_value

-- whether the cell's element has components in a dimension
unfoldable pub has_components_at : Place → ℕ → Bool
has_components_at p dim = is_some (component_cells p.version.model.space p.cell dim)

-- what STET gives, and ConsolidateChildren
unfoldable pub stet_at : Place → Value
stet_at p =
    if is_leaf_cell p.version.model.space p.cell
    then option_map_or Num (stored_in p.version.stored p.cell) zero_value
    else weighted_sum (value_on p.version) (leaves_below p.version.model.space p.cell)

unfoldable pub children_at : Place → ℕ → Value
children_at p dim =
    option_map_or (weighted_sum (value_on p.version)) (component_cells p.version.model.space p.cell dim) (stet_at p)

-- the cell's element in a dimension
abbrev pub own_at : Place → ℕ → ℕ
own_at p dim = element_at p.version.model.space p.cell dim

-- what a formula takes, where the statements after it give `rest`
abbrev pub given_at : Place → Value → Given
given_at p rest =
    record {
      target = target_at p;
      named = named_at p;
      has_components = has_components_at p;
      others = record { stet = stet_at p; rest = rest; children = children_at p; own = own_at p };
    }
