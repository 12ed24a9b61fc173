use Rattle.rule_model.specs.System.{system_of}
use Rattle.stored_laws.proofs.Stored.{value-leaf, value-total}
use Rattle.stored_laws.proofs.laws.ungoverned_cells_have_what_is_stored.Goals as goal

pub returns-clause-leaf : goal.returns-clause-leaf
unfolding system_of
returns-clause-leaf g m entries table c solves cell none leaf = value-leaf m entries table solves c cell none leaf

pub returns-clause-consolidated : goal.returns-clause-consolidated
unfolding system_of
returns-clause-consolidated g m entries table c store leaves solves cell none below total =
    value-total m entries table solves c store leaves cell none below total
