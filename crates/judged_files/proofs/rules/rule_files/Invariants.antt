use Rattle.std.proofs.Common.{◌≡◌, take}
use Rattle.judged_files.specs.Rules.{rule_files}
use Rattle.judged_files.proofs.rules.rule_files.Given as goal

-- the files of the cubes so far
abbrev pub invariant-loop-cube : goal.invariant-loop-cube
invariant-loop-cube l = l.files ≡ rule_files l.sources (take l.cube l.cubes)
