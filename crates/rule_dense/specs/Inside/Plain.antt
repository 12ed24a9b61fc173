-- What formulas read of a table of values.
use Rattle.std.specs.Prelude.{ℕ, ◌&&◌, Bool, true, nat_lt, List, slice_index_or, if◌then◌else◌}
use Rattle.cube_fixed.specs.declared.value.Value.{Value}
use Rattle.cube_fixed.specs.Arithmetic.{zero_value}
use Rattle.cube_fixed.specs.Total.{Total, with_term}
use Rattle.cube_space.specs.Layout.{Layout}
use Rattle.cube_space.specs.Cells.{size_of, is_leaf_cell}
use Rattle.dim_weights.specs.Table.{is_nonzero}
use Rattle.cell_store.specs.declared.entry.Entry.{Entry}
use Rattle.rule_laws.specs.RuleSystem.{base, children_value}
use Rattle.rule_model.specs.BoundModel.{BoundModel}
use Rattle.rule_model.specs.System.{system_of}
use Rattle.rule_model.specs.Weights.{weight}
use Rattle.stored_laws.specs.Stored.{stored_in}
use Rattle.rule_evaluate.specs.declared.ask.Ask.{Ask}
use Rattle.rule_evaluate.specs.declared.ask.Ask.TheVariants.{Value as of_value, Base as of_base}
use Rattle.rule_evaluate.specs.declared.ask.Ask.TheVariants.{Children as of_children}
use Rattle.rule_evaluate.specs.Readings.{Readings, readings_of}

-- a table of values, over what is stored
pub record PlainTable : Type 0 where
  pub model : BoundModel
  pub entries : List Entry
  pub values : List Value

-- a list of values as a table: 0 past its end
abbrev pub table_of : List Value → ℕ → Value
table_of values c = slice_index_or values c zero_value

-- the sum with the term of one cell more, where it is a leaf cell below the cell
unfoldable pub with_leaf : Layout → (ℕ → Value) → ℕ → Total → ℕ → Total
with_leaf space table cell total leaf =
    if is_leaf_cell space leaf && is_nonzero (weight space cell leaf)
    then with_term total (weight space cell leaf) (table leaf) else total

-- what a cell has where no statement governs it, and the weighted sum over the components of its element
abbrev pub base_in : PlainTable → ℕ → Value
base_in plain = base (system_of plain.model) (stored_in plain.entries) (table_of plain.values)

abbrev pub children_in : PlainTable → ℕ → ℕ → Value
children_in plain = children_value (system_of plain.model) (stored_in plain.entries) (table_of plain.values)

-- what formulas read of a table
unfoldable pub plain_readings : PlainTable → Readings
plain_readings plain = readings_of (system_of plain.model) (stored_in plain.entries) (table_of plain.values)

-- a table is asked of cells alone for what stands beside values
abbrev pub may_be_asked : PlainTable → Ask → Bool
may_be_asked plain (of_value cell) = true
may_be_asked plain (of_base cell) = nat_lt cell (size_of plain.model.space)
may_be_asked plain (of_children cell dim) = nat_lt cell (size_of plain.model.space)
