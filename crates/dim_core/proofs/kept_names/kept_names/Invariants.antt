use Rattle.std.proofs.Common.{◌≡◌, ◌++◌}
use Rattle.dim_core.proofs.kept_names.kept_names.Given as goal

abbrev pub invariant-loop-name : goal.invariant-loop-name
invariant-loop-name l = l.fn.names.keys ≡ l.kept ++ l.name-iterator
