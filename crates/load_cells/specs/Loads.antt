-- What a load runs on: the cells of a version, by names, with the writes so far.
use Rattle.std.specs.Prelude.{ℕ, suc, nat_lt, ◌&&◌, List, length, filter, if◌then◌else◌}
use Rattle.std.specs.Prelude.{Option, Some, None, is_none, option_map}
use Rattle.std.specs.List.{list_all}
use Rattle.cell_reader.specs.FedCount.{fed_count}
use Rattle.cell_reader.specs.StoredBelow.{stored_below}
use Rattle.cell_reader.specs.WritePermission.{why_closed}
use Rattle.cell_reader.specs.declared.write_permission.Closed.{Closed}
use Rattle.cell_reader.specs.declared.write_permission.Closed.TheVariants as closed
use Rattle.cell_store.specs.declared.entry.Entry.{Entry}
use Rattle.cell_store.specs.Entries.{after_writes}
use Rattle.cell_store.specs.StoreLimit.{most_cells}
use Rattle.cube_space.specs.Layout.{Layout}
use Rattle.dim_name.specs.Name.{is_name}
use Rattle.feed_map.specs.FedCells.{most_fed}
use Rattle.rule_laws.specs.RuleSystem.{dense_value}
use Rattle.rule_model.specs.BoundModel.{BoundModel}
use Rattle.rule_model.specs.Named.{cell_named}
use Rattle.rule_model.specs.System.{system_of}
use Rattle.script_values.specs.Cells.{Store}
use Rattle.script_values.specs.declared.load_reason.LoadReason.{LoadReason}
use Rattle.script_values.specs.declared.load_reason.LoadReason.TheVariants.{NotALeaf, RuleDerived, StoreLimit, FedLimit}
use Rattle.stored_laws.specs.Stored.{stored_in}
use Rattle.load_cells.specs.Members.{elements_by_text}

-- the cell that these texts name; a text that is no name names nothing
abbrev pub cell_by_texts : Layout → List ℕ → List (List ℕ) → Option ℕ
cell_by_texts space cube elements =
    if is_name cube && list_all is_name elements then cell_named space cube elements else None

-- why a load that writes into a closed cell is rejected
abbrev pub reason_of : Closed → LoadReason
reason_of closed.NotALeaf = NotALeaf
reason_of closed.RuleDerived = RuleDerived

-- which limit is passed where this is stored
abbrev pub passed : BoundModel → List Entry → Option LoadReason
passed model stored =
    if nat_lt most_cells (length stored) then Some (StoreLimit (length stored))
    else if nat_lt most_fed (fed_count model stored) then Some (FedLimit (suc most_fed))
    else None

-- those of these cells that take input, whatever is stored
abbrev pub open_among : BoundModel → List ℕ → List ℕ
open_among model cells = filter (λ cell. is_none (why_closed model cell)) cells

-- a model and what is stored, as a load sees them
abbrev pub store_of : BoundModel → List Entry → Store
store_of model stored =
    record {
      cell = cell_by_texts model.space;
      value = λ writes. dense_value (system_of model) (stored_in (after_writes stored writes));
      closed = λ cell. option_map reason_of (why_closed model cell);
      full = λ writes. passed model (after_writes stored writes);
      cleared = λ writes cell. open_among model (stored_below model.space (after_writes stored writes) cell);
      elements = elements_by_text model.space;
    }
