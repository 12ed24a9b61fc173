use Rattle.std.proofs.Common.{◌≡◌, ◌++◌, drop}
use Rattle.cube_words.specs.Words.{texts_of}
use Rattle.judged_files.specs.Scripts.{script_files}
use Rattle.judged_files.proofs.scripts.script_files.Given as goal

-- the names so far, and then those of the scripts that are left
abbrev pub invariant-loop-script : goal.invariant-loop-script
invariant-loop-script l = texts_of l.names.items ++ script_files (drop l.script-index l.scripts) ≡ script_files l.scripts
