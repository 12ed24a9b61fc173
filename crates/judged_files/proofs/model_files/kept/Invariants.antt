use Rattle.std.proofs.Common.{◌≡◌, ◌++◌, map}
use Rattle.std.specs.Arc.{arc_value}
use Rattle.judged_files.proofs.model_files.kept.Given as goal

-- the scripts so far, and then those that are left
abbrev pub invariant-loop-script : goal.invariant-loop-script
invariant-loop-script l = map arc_value l.kept.items ++ l.script-iterator.rest.items ≡ l.fn.scripts.items
