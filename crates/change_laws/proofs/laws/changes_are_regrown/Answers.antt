use Rattle.change_laws.proofs.Changes.{is-regrowth}
use Rattle.change_laws.proofs.laws.changes_are_regrown.Goals as goal

pub returns : goal.returns
returns c = is-regrowth
