use Rattle.std.proofs.Common.{◌≡◌, ◌++◌, drop}
use Rattle.judged_files.specs.Rules.{rule_names}
use Rattle.cube_words.specs.Words.{texts_of}
use Rattle.judged_files.proofs.rules.rule_names.Given as goal

-- the names so far, and then those of the cubes that are left
abbrev pub invariant-loop-cube : goal.invariant-loop-cube
invariant-loop-cube l = texts_of l.names.items ++ rule_names (drop l.cube-index l.cubes) ≡ rule_names l.cubes
