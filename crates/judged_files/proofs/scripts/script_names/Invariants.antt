use Rattle.std.proofs.Common.{◌≡◌, ◌++◌, drop}
use Rattle.model_text.specs.Contents.{script_names}
use Rattle.judged_files.proofs.scripts.script_names.Given as goal

-- the names so far, and then those of the scripts that are left
abbrev pub invariant-loop-script : goal.invariant-loop-script
invariant-loop-script l = l.names.items ++ script_names (drop l.script-index l.scripts) ≡ script_names l.scripts
