use Rattle.std.proofs.Common.{◌≡◌, sym, subst}
use Rattle.rule_laws.specs.OrderByPlace.{IsOrderedByPlace}
use Rattle.rule_model.specs.BoundModel.{BoundModel}
use Rattle.rule_model.specs.System.{system_of, positions_of}
use Rattle.rule_cases.proofs.cases.answer_of.Goals as goal

pub answer_commands-requires-clause-ordered : goal.answer_commands-requires-clause-ordered
answer_commands-requires-clause-ordered c = subst (λ (m : BoundModel). IsOrderedByPlace (system_of m) (positions_of m)) (sym c.in_ok-sources.ensures) c.in_ok-model.ensures.ordered
