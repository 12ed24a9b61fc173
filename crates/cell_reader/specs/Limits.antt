-- The limits of a version: how many cells may be stored, and how many fed.
use Rattle.std.specs.Prelude.{◌<◌, ◌≤◌, List, length, Result}
use Rattle.cell_store.specs.StoreLimit.{most_cells}
use Rattle.cell_store.specs.declared.entry.Entry.{Entry}
use Rattle.cell_versions.specs.LimitAnswers.{AnswersLimits}
use Rattle.cell_versions.specs.declared.fault.NextFault.{NextFault}
use Rattle.feed_map.specs.FedCells.{most_fed}
use Rattle.rule_model.specs.BoundModel.{BoundModel}
use Rattle.cell_reader.specs.FedCount.{fed_count}

-- neither limit is passed where this is stored
pub record IsWithinLimits (model : BoundModel) (stored : List Entry) : Type 0 where
  pub few_stored : length stored ≤ most_cells
  pub few_fed : fed_count model stored ≤ most_fed

-- the answer to writes that leave this stored: the limit that is passed, if one is
abbrev pub IsLimitAnswer : {T : Type 0} → BoundModel → List Entry → Result T NextFault → Type 0
IsLimitAnswer model stored answer =
    AnswersLimits (fed_count model stored ≤ most_fed) (most_fed < fed_count model stored) stored answer
