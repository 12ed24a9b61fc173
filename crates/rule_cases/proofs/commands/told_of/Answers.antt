use Rattle.std.proofs.Common.{◌≡◌, sym, subst}
use Rattle.rule_laws.specs.OrderByPlace.{IsOrderedByPlace}
use Rattle.rule_model.specs.BoundModel.{BoundModel}
use Rattle.rule_model.specs.System.{system_of, positions_of}
use Rattle.rule_cases.proofs.commands.told_of.Goals as goal

pub dense-requires-clause-ordered : goal.dense-requires-clause-ordered
dense-requires-clause-ordered c = subst (λ (m : BoundModel). IsOrderedByPlace (system_of m) (positions_of m)) (sym c.model.ensures) c.requires.ordered

pub add_course-requires-clause-ordered : goal.add_course-requires-clause-ordered
add_course-requires-clause-ordered c = subst (λ (m : BoundModel). IsOrderedByPlace (system_of m) (positions_of m)) (sym c.model-then-eq.ensures) c.requires.ordered
