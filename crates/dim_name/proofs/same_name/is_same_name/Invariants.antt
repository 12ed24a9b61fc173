use Rattle.std.proofs.Common.{◌≡◌, length}
use Rattle.dim_name.specs.Name.{is_same_name}
use Rattle.dim_name.proofs.same_name.is_same_name.Given as goal

abbrev pub invariant-letter : goal.invariant-letter
invariant-letter l = is_same_name l.left l.right ≡ is_same_name l.one l.other

abbrev pub decreases-letter : goal.decreases-letter
decreases-letter l = length l.left
