use Rattle.dim_weights.proofs.Equations.{coef-only}
use Rattle.dim_weights.proofs.laws.only_coefficients_solve.Goals as goal

pub returns : goal.returns
returns c d dim leaf table solves element here = coef-only d dim leaf table solves element here
