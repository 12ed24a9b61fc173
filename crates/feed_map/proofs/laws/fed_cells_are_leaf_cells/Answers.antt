use Rattle.rule_model.specs.System.{system_of}
use Rattle.model_laws.proofs.Formed.{well_formed}
use Rattle.stored_laws.specs.Stored.{stored_in}
use Rattle.feed_map.proofs.ChainFacts.{fed-leaf}
use Rattle.feed_map.proofs.laws.fed_cells_are_leaf_cells.Goals as goal

pub returns-clause-cell : goal.returns-clause-cell
unfolding system_of
returns-clause-cell c m entries cells valid rules are cell has =
    (fed-leaf (system_of m) (well_formed m valid rules) (stored_in entries) cell ((are.fed cell).0 has)).0

pub returns-clause-leaf : goal.returns-clause-leaf
unfolding system_of
returns-clause-leaf c m entries cells valid rules are cell has =
    (fed-leaf (system_of m) (well_formed m valid rules) (stored_in entries) cell ((are.fed cell).0 has)).1
