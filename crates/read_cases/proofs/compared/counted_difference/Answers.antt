use Rattle.std.proofs.Common.{subst, sym}
use Rattle.rule_laws.specs.OrderByPlace.{IsOrderedByPlace}
use Rattle.rule_model.specs.System.{system_of, positions_of}
use Rattle.read_cases.proofs.compared.counted_difference.Goals as goal

-- a snapshot's model was accepted, and so its order was checked
pub dense-requires-clause-ordered : goal.dense-requires-clause-ordered
dense-requires-clause-ordered g c = subst (λ model. IsOrderedByPlace (system_of model) (positions_of model))
    (sym c.model-in-each.ensures.model) c.model-in-each.ensures.accepted.ordered
