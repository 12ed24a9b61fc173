-- What a version of an accepted model says of itself.
use Rattle.std.specs.Prelude.{◌≤◌, length}
use Rattle.accepted.specs.Checks.{IsAccepted}
use Rattle.cell_store.specs.StoreLimit.{most_cells}
use Rattle.cell_versions.specs.Versions.{NumberedVersion}
use Rattle.cube_space.specs.Cells.{IsSpace}
use Rattle.feed_map.specs.FedCells.{AreFedCells, most_fed}
use Rattle.rule_model.specs.Conditions.{AreRules}

pub record IsSound (version : NumberedVersion) : Type 0 where
  pub space : IsSpace version.model.space
  pub rules : AreRules version.model.space version.model.rules
  pub accepted : IsAccepted version.model
  pub fed : AreFedCells version.model version.stored version.fed
  pub few_stored : length version.stored ≤ most_cells
  pub few_fed : length version.fed ≤ most_fed
