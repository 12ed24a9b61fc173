use Rattle.cell_spread.proofs.Rounding.{shared-near}
use Rattle.cell_spread.proofs.laws.shares_are_near.Goals as goal

pub returns : goal.returns
returns c amount parts some = shared-near amount parts some
