use Rattle.std.proofs.Common.{◌≡◌, length}
use Rattle.rule_cases.proofs.models.rule_files.Given as goal

abbrev pub invariant-loop-cube : goal.invariant-loop-cube
invariant-loop-cube l = length l.all ≡ l.cube
