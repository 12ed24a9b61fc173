use Rattle.cell_spread.proofs.Rounding.{shared-sum}
use Rattle.cell_spread.proofs.laws.shares_are_the_amount.Goals as goal

pub returns : goal.returns
returns c amount parts some = shared-sum amount parts some
