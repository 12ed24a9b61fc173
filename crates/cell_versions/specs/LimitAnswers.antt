-- The answer to writes that leave so much stored, and so many cells fed.
use Rattle.std.specs.Prelude.{◌≡◌, suc, ◌<◌, ◌≤◌, ◌⊎◌, List, length, Result, Err, IsOkUnless}
use Rattle.cell_store.specs.StoreLimit.{most_cells}
use Rattle.cell_store.specs.declared.entry.Entry.{Entry}
use Rattle.feed_map.specs.FedCells.{most_fed}
use Rattle.cell_versions.specs.declared.fault.NextFault.{NextFault}
use Rattle.cell_versions.specs.declared.fault.NextFault.TheVariants.{StoreLimit, FedLimit, Memory}

-- each limit is answered exactly where it is passed, out of memory aside, that of the stored cells first; whoever
-- counts the fed cells says whether they are few or many
pub record AnswersLimits {T : Type 0} (few_fed many_fed : Type 0) (stored : List Entry) (answer : Result T NextFault)
    : Type 0 where
  pub within : length stored ≤ most_cells → few_fed → IsOkUnless answer Memory
  pub past_store : most_cells < length stored →
      (answer ≡ Err (StoreLimit (length stored))) ⊎ (answer ≡ Err Memory)
  pub past_fed : length stored ≤ most_cells → many_fed →
      (answer ≡ Err (FedLimit (suc most_fed))) ⊎ (answer ≡ Err Memory)
