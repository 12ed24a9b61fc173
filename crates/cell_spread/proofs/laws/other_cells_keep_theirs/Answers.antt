use Rattle.cell_spread.proofs.Written.{number-kept, others-from}
use Rattle.cell_spread.proofs.laws.other_cells_keep_theirs.Goals as goal

pub returns : goal.returns
returns c entries writes x none = number-kept entries writes x (others-from writes x none)
