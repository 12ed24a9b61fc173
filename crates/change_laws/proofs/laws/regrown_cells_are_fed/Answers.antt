use Rattle.change_laws.proofs.Changes.{grown-are}
use Rattle.change_laws.proofs.laws.regrown_cells_are_fed.Goals as goal

pub returns : goal.returns
returns c = grown-are
