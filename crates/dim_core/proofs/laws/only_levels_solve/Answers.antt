use Rattle.dim_core.proofs.LevelLaws.{levels-only}
use Rattle.dim_core.proofs.laws.only_levels_solve.Goals as goal

pub returns : goal.returns
returns c d dim table solves element here = levels-only d dim table solves element here
