use Rattle.dim_weights.proofs.Equations.{coef-solves}
use Rattle.dim_weights.proofs.laws.coefficients_solve.Goals as goal

pub returns : goal.returns
returns c d dim leaf = coef-solves d dim leaf
