-- How many cells are fed over what is stored.
use Rattle.std.specs.Prelude.{ℕ, List, length}
use Rattle.cell_store.specs.declared.entry.Entry.{Entry}
use Rattle.fed_laws.specs.FedCells.{fed_cells}
use Rattle.rule_model.specs.BoundModel.{BoundModel}
use Rattle.rule_model.specs.System.{system_of}
use Rattle.stored_laws.specs.Stored.{stored_in}

unfoldable pub fed_count : BoundModel → List Entry → ℕ
fed_count model stored = length (fed_cells (system_of model) (stored_in stored))
