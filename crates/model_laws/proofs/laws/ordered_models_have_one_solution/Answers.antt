use Rattle.rule_laws.proofs.PlaceFacts.{ordered-by_place}
use Rattle.rule_laws.proofs.SystemFacts.{dense_value-solves, dense_value-only}
use Rattle.rule_model.specs.System.{system_of, positions_of}
use Rattle.model_laws.proofs.Formed.{well_formed}
use Rattle.model_laws.proofs.Ranks.{ranked}
use Rattle.model_laws.proofs.laws.ordered_models_have_one_solution.Goals as goal

pub returns-clause-ordered : goal.returns-clause-ordered
returns-clause-ordered c m valid rules ordered = ordered-by_place (system_of m) (positions_of m) (well_formed m valid rules) (ranked m) ordered

pub returns-clause-solution : goal.returns-clause-solution
returns-clause-solution c m stored valid rules ordered =
    dense_value-solves (system_of m) (well_formed m valid rules) stored (ordered-by_place (system_of m) (positions_of m) (well_formed m valid rules) (ranked m) ordered)

pub returns-clause-only : goal.returns-clause-only
returns-clause-only c m stored table valid rules ordered =
    dense_value-only (system_of m) (well_formed m valid rules) stored (ordered-by_place (system_of m) (positions_of m) (well_formed m valid rules) (ranked m) ordered) table
