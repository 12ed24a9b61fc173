use Rattle.cube_fixed.proofs.Zero.{opposite_of-number}
use Rattle.cube_fixed.proofs.laws.law_of_opposites.Goals as goal

pub returns : goal.returns
returns c = opposite_of-number
