use Rattle.dim_core.proofs.LevelLaws.{component-lower}
use Rattle.dim_core.proofs.laws.components_have_smaller_levels.Goals as goal

pub returns : goal.returns
returns c d dim element here = component-lower d dim element here
