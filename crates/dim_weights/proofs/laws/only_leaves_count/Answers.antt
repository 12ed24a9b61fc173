use Rattle.dim_weights.proofs.Equations.{only-leaves}
use Rattle.dim_weights.proofs.laws.only_leaves_count.Goals as goal

pub returns : goal.returns
returns c d dim leaf above element here = only-leaves d dim leaf above element here
