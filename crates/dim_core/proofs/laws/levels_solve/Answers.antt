use Rattle.dim_core.proofs.LevelLaws.{levels-solve}
use Rattle.dim_core.proofs.laws.levels_solve.Goals as goal

pub returns : goal.returns
returns c d dim = levels-solve d dim
