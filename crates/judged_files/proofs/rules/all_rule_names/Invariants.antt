use Rattle.std.proofs.Common.{◌≡◌, ◌++◌, drop}
use Rattle.judged_files.specs.Rules.{all_rule_names}
use Rattle.judged_files.proofs.rules.all_rule_names.Given as goal

-- the names so far, and then those of the cubes that are left
abbrev pub invariant-loop-cube : goal.invariant-loop-cube
invariant-loop-cube l = l.names.items ++ all_rule_names (drop l.cube-index l.cubes) ≡ all_rule_names l.cubes
