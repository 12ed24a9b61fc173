-- What the checks of deployment show of a model.
use Rattle.std.specs.Prelude.{[]}
use Rattle.cube_space.specs.Cells.{IsSpace}
use Rattle.rule_laws.specs.Cover.{IsCovered}
use Rattle.rule_laws.specs.OrderByPlace.{IsOrderedByPlace}
use Rattle.rule_model.specs.BoundModel.{BoundModel}
use Rattle.rule_model.specs.Conditions.{AreRules}
use Rattle.rule_model.specs.System.{system_of, positions_of}
use Rattle.feed_map.specs.FedCells.{HasFewFed}

pub record IsAccepted (model : BoundModel) : Type 0 where
  -- its dimensions and cubes make a space, and its rules are those of its cubes
  pub valid : IsSpace model.space
  pub rules : AreRules model.space model.rules
  -- what formulas read stands before their cells in the declared order
  pub ordered : IsOrderedByPlace (system_of model) (positions_of model)
  -- feeders cover the rules of the cubes that say SKIPCHECK
  pub covered : IsCovered (system_of model)
  -- where nothing is stored no more cells are fed than may be
  pub few_fed : HasFewFed model []
