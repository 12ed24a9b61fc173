use Rattle.stored_laws.proofs.Stored.{base-leaf, base-total}
use Rattle.stored_laws.proofs.laws.sums_over_entries_are_sums_below.Goals as goal

pub returns-clause-leaf : goal.returns-clause-leaf
returns-clause-leaf g m entries table c leaf = base-leaf m entries table c leaf

pub returns-clause-consolidated : goal.returns-clause-consolidated
returns-clause-consolidated g m entries table c store leaves have total = base-total m entries table c store leaves have total
