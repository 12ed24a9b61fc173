-- The questions that come up while a value is worked out, their answers, and how much work each is.
use Rattle.std.specs.Prelude.{◌≡◌, ℕ, suc, ◌+◌, ◌<◌, nat_lt, Bool, true, false, ℤ, List, [], ◌∷◌, ◌++◌, map, filter}
use Rattle.std.specs.Prelude.{drop, length, Contains}
use Rattle.std.specs.List.{list_all, range_with_len}
use Rattle.cell_store.specs.Entries.{cells_of}
use Rattle.cell_versions.specs.Versions.{NumberedVersion}
use Rattle.cube_fixed.specs.declared.value.Value.{Value}
use Rattle.cube_space.specs.Cells.{IsCell, is_leaf_cell, cube_of, size_of}
use Rattle.cube_space.specs.Layout.{axes}
use Rattle.dim_weights.specs.Table.{is_nonzero}
use Rattle.equations.specs.Equations.{table_by_rounds}
use Rattle.rule_evaluate.specs.declared.ask.Ask.{Ask}
use Rattle.rule_evaluate.specs.declared.ask.Ask.TheVariants.{Value as of_value, Base as of_base}
use Rattle.rule_evaluate.specs.declared.ask.Ask.TheVariants.{Children as of_children}
use Rattle.rule_evaluate.specs.Readings.{Readings}
use Rattle.rule_laws.specs.RuleSystem.{base, children_value, depth}
use Rattle.rule_model.specs.System.{system_of}
use Rattle.rule_model.specs.Targets.{parts_at, with_components}
use Rattle.sparse_sum.specs.Live.{live_below}
use Rattle.stored_laws.specs.Stored.{stored_in}
use Rattle.cell_values.specs.Reading.{value_on, AreValuesOn}

-- what the answers depend on: a version, and the values that are remembered
pub record Setting : Type 0 where
  pub version : NumberedVersion
  pub values : ℕ → Value

-- the answers: the value of a cell, what it would have if no statement governed it, and the sum over its components
unfoldable pub base_on : NumberedVersion → ℕ → Value
base_on version = base (system_of version.model) (stored_in version.stored) (value_on version)

unfoldable pub children_on : NumberedVersion → ℕ → ℕ → Value
children_on version = children_value (system_of version.model) (stored_in version.stored) (value_on version)

unfoldable pub readings_on : NumberedVersion → Readings
readings_on version =
    record { value = value_on version; base = base_on version; children = children_on version }

abbrev pub answer_on : NumberedVersion → Ask → Value
answer_on version (of_value cell) = value_on version cell
answer_on version (of_base cell) = base_on version cell
answer_on version (of_children cell dim) = children_on version cell dim

-- how deep a cell lies
unfoldable pub depth_on : NumberedVersion → ℕ → ℕ
depth_on version cell = depth (system_of version.model) cell

-- the stored or fed leaf cells below a cell
unfoldable pub leaves_on : NumberedVersion → ℕ → List (ℕ × ℤ)
leaves_on version cell = live_below version.model.space (cells_of version.stored) version.fed cell

-- the components of a cell in a dimension from this place on, those of weight 0 left out
unfoldable pub components_on : NumberedVersion → ℕ → ℕ → ℕ → List (ℕ × ℤ)
components_on version cell dim place =
    filter (λ pair. is_nonzero pair.1)
    (with_components version.model.space cell dim (drop place (parts_at version.model.space cell dim)))

-- whether they all lie less deep than the cell
unfoldable pub is_grounded : NumberedVersion → ℕ → ℕ → Bool
is_grounded version cell dim =
    list_all (λ pair. nat_lt (depth_on version pair.0) (depth_on version cell)) (components_on version cell dim 0)

-- the questions that work is begun on
abbrev pub IsAsked : NumberedVersion → Ask → Type 0
IsAsked version (of_value cell) = IsCell version.model.space cell
IsAsked version (of_base cell) = IsCell version.model.space cell × (is_leaf_cell version.model.space cell ≡ false)
IsAsked version (of_children cell dim) =
    IsCell version.model.space cell × (0 < length (parts_at version.model.space cell dim))
    × (is_grounded version cell dim ≡ true)

abbrev pub IsQuestion : Setting → Ask → Type 0
IsQuestion w question = AreValuesOn w.version w.values × IsAsked w.version question

-- what a question may lead to: less deep questions alone
abbrev pub values_of : List (ℕ × ℤ) → List Ask
values_of pairs = map (λ pair. of_value pair.0) pairs

abbrev pub leads_to : NumberedVersion → Ask → List Ask
leads_to version (of_value cell) = of_base cell
    ∷ (map (of_children cell) (range_with_len 0 (length (axes version.model.space (cube_of version.model.space cell))))
    ++ map of_value (range_with_len 0 (size_of version.model.space)))
leads_to version (of_base cell) = values_of (leaves_on version cell)
leads_to version (of_children cell dim) = values_of (components_on version cell dim 0)

abbrev pub level_on : NumberedVersion → Ask → ℕ
level_on version (of_value cell) = depth_on version cell + depth_on version cell + 1
level_on version (of_base cell) = depth_on version cell + depth_on version cell
level_on version (of_children cell dim) = depth_on version cell + depth_on version cell

unfoldable pub asks_on : NumberedVersion → Ask → List Ask
asks_on version question =
    filter (λ asked. nat_lt (level_on version asked) (level_on version question)) (leads_to version question)

-- the work on a question: its own, and that on each question which it may lead to, and one more for each
abbrev pub cost_by : (Ask → ℕ) → List Ask → ℕ
cost_by work [] = 0
cost_by work (asked ∷ asks) = suc (work asked + cost_by work asks)

abbrev pub work_by : NumberedVersion → (Ask → ℕ) → Ask → ℕ
work_by version work question = suc (cost_by work (asks_on version question))

unfoldable pub work_on : NumberedVersion → Ask → ℕ
work_on version = table_by_rounds 0 (work_by version) (λ question. suc (level_on version question))

-- the work on these questions, and one more for each
unfoldable pub cost_on : NumberedVersion → List Ask → ℕ
cost_on version asks = cost_by (work_on version) asks

-- the evaluation of a cell leads to a question that work can begin on
pub record LeadsTo (version : NumberedVersion) (cell : ℕ) (question : Ask) : Type 0 where
  pub is_asked : IsAsked version question
  pub leads : Contains (asks_on version (of_value cell)) question
