-- Deployment: a model text and its rule files are bound, what feeders are to be found are added, and the checks of the
-- whole model are made, in order.
use Rattle.std.specs.Prelude.{◌≡◌, ◌≤◌, suc, List, [], Option}
use Rattle.cube_lex.specs.Positions.{text_begin}
use Rattle.model_text.specs.Contents.{Contents}
use Rattle.cube_space.specs.Radix.{product}
use Rattle.rule_laws.specs.Cover.{IsCovered}
use Rattle.rule_laws.specs.OrderByPlace.{IsOrderedByPlace}
use Rattle.rule_model.specs.BoundModel.{BoundModel}
use Rattle.rule_model.specs.Order.{most_height, position_sizes}
use Rattle.rule_model.specs.System.{system_of, positions_of}
use Rattle.check_order.specs.Verdict.{IsOrderFault}
use Rattle.check_order.specs.declared.fault.OrderFault.{OrderFault}
use Rattle.check_order.specs.declared.fault.OrderFault.TheVariants as orders
use Rattle.feed_check.specs.Sizes.{AreSmall}
use Rattle.feed_check.specs.Verdict.{IsFirstFault}
use Rattle.feed_check.specs.declared.fault.FeedCheckFault.{FeedCheckFault}
use Rattle.feed_check.specs.declared.fault.FeedCheckFault.TheVariants as feeders
use Rattle.feed_find.specs.Added.{with_found}
use Rattle.feed_find.specs.Found.{found_feeders}
use Rattle.feed_map.specs.FedCells.{HasFewFed, HasManyFed, most_fed}
use Rattle.model_bind.specs.Binding.{binding}
use Rattle.model_bind.specs.Files.{RuleFile}
use Rattle.model_bind.specs.declared.bound.Bound.{Bound}
use Rattle.model_bind.specs.declared.fault.DeployFault.{DeployFault}
use Rattle.model_bind.specs.declared.fault.DeployCause.TheVariants as causes
use Rattle.model_bind.specs.Foundation.{refused_in_model}
use Rattle.model_bind.specs.Rules.{refused_at}
use Rattle.model_bind.specs.Stages.{Stage, found, ◌>>=◌}

-- what is wrong with the order: a height is one of the whole model, a reference stands in its cube's file
abbrev pub order_refusal : List (Option RuleFile) → OrderFault → DeployFault
order_refusal files (orders.TooHigh height) = refused_in_model text_begin (causes.TooHigh height)
order_refusal files (orders.NotEarlier cube statement reference) =
    refused_at files cube statement (causes.NotEarlier reference)

-- what is wrong with the feeders: in the cube's file, at the statement, or at the first where the cube is too large
abbrev pub feeders_refusal : List (Option RuleFile) → FeedCheckFault → DeployFault
feeders_refusal files (feeders.NotFed cube statement operand) =
    refused_at files cube statement (causes.NotFed operand)
feeders_refusal files (feeders.DenseTooLarge cube count) = refused_at files cube 1 (causes.DenseTooLarge count)

-- what formulas read stands before their cells in the declared order, cell by cell, and the order isn't too high
abbrev pub ordered_stage : List (Option RuleFile) → BoundModel → Stage (Unit {0})
ordered_stage files model = record {
  finds = λ _. IsOrderedByPlace (system_of model) (positions_of model)
      × (product (position_sizes model) ≤ most_height);
  refuses = λ fault. (first : OrderFault) × IsOrderFault model first × (fault ≡ order_refusal files first);
}

-- feeders cover the rules of the cubes that say SKIPCHECK, and no dense cube is too large
abbrev pub feeders_stage : List (Option RuleFile) → BoundModel → Stage (Unit {0})
feeders_stage files model = record {
  finds = λ _. IsCovered (system_of model) × AreSmall model;
  refuses = λ fault.
      (first : FeedCheckFault) × IsFirstFault model first × (fault ≡ feeders_refusal files first);
}

-- where nothing is stored no more cells are fed than may be
abbrev pub fed_stage : BoundModel → Stage (Unit {0})
fed_stage model = record {
  finds = λ _. HasFewFed model [];
  refuses = λ fault. HasManyFed model [] × (fault ≡ refused_in_model text_begin (causes.FedLimit (suc most_fed)));
}

-- the checks of a whole model: order, feeders and fed cells, each over the whole model before the next
abbrev pub checked : List (Option RuleFile) → BoundModel → Stage BoundModel
checked files model = do
  _ ← ordered_stage files model
  _ ← feeders_stage files model
  _ ← fed_stage model
  found model

-- a bound model with the feeders that are found for the cubes that ask for them
abbrev pub fed_model : Bound → BoundModel
fed_model bound = with_found bound.model (found_feeders bound.model bound.asking)

-- a text and its rule files are bound, and the model with what feeders are found for it is checked
unfoldable pub deployment : Contents → List (Option RuleFile) → Stage BoundModel
deployment contents files = do
  bound ← binding contents files
  checked files (fed_model bound)
