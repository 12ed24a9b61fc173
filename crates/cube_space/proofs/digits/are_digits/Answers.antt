use Rattle.cube_space.proofs.Steps.{digits-other_count}
use Rattle.cube_space.proofs.digits.are_digits.Goals as goal

pub returns-then-sizes-digits : goal.returns-then-sizes-digits
returns-then-sizes-digits c = digits-other_count _ _ c.if-sizes-digits.true
