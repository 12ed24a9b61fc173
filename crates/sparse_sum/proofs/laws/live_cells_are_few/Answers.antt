use Rattle.sparse_sum.proofs.Fewness.{live-few}
use Rattle.sparse_sum.proofs.laws.live_cells_are_few.Goals as goal

pub returns : goal.returns
returns c = live-few
