-- What the laws of this crate say.
use Rattle.std.specs.Prelude.{◌≡◌, ℕ, List, [], ◌∷◌}
use Rattle.cube_fixed.specs.declared.value.Value.{Value}
use Rattle.cube_server.specs.Answer.{IsServed}
use Rattle.rule_laws.specs.RuleSystem.{RuleSystem, Stored, IsCell, SolvesRules, dense_value}
use Rattle.rule_model.specs.BoundModel.{BoundModel}
use Rattle.rule_model.specs.System.{system_of}
use Rattle.sandbox.specs.declared.act.Act.{Act}
use Rattle.user_session.specs.declared.command.PlanCommand.{PlanCommand}

-- where one user runs, there is one text
abbrev pub OneUserHasOneOutput : Type 0
OneUserHasOneOutput =
    (model : BoundModel) (commands : List (Act PlanCommand)) (text other : List ℕ)
    → IsServed model (commands ∷ []) text → IsServed model (commands ∷ []) other → text ≡ other

-- these values solve the rule equations over what is stored, and no others do
pub record IsOnlySolution (w : RuleSystem) (stored : Stored) (value : ℕ → Value) : Type 0 where
  pub solves : SolvesRules w stored value
  pub only : (other : ℕ → Value) → SolvesRules w stored other → (c : ℕ) → IsCell w c → other c ≡ value c

-- whatever is stored, the values of a model that is served are the only solution
abbrev pub ServedValuesAreTheOnlySolution : Type 0
ServedValuesAreTheOnlySolution =
    (model : BoundModel) (users : List (List (Act PlanCommand))) (text : List ℕ) → IsServed model users text
    → (stored : Stored) → IsOnlySolution (system_of model) stored (dense_value (system_of model) stored)
