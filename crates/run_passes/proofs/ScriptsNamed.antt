-- The scripts that a model's files mean are those that it names.
use Rattle.std.proofs.Common.{◌≡◌, ◌≤◌, ℕ, List, length, ◌∙◌}
use Rattle.file_passes.specs.Pass.{Readings}
use Rattle.judged_files.specs.ModelFiles.{AreNamed}
use Rattle.judged_files.proofs.ReadyFacts.{as-many-files, as-many-scripts}
use Rattle.model_text.specs.Contents.{most_scripts}
use Rattle.script_bound.specs.declared.script.BoundScript.{BoundScript}
use Rattle.run_passes.specs.RefusalOrder.{as_text, scripts_pass}

pub scripts-named : (readings : Readings) (files names : List (List ℕ)) (scripts : List BoundScript) → (scripts_pass files).finds readings scripts
    → length files ≡ length names → length names ≤ most_scripts → AreNamed names scripts
scripts-named readings files names scripts finds each few = record {
  each = as-many-scripts finds.0 scripts finds.2 ∙ as-many-files as_text readings files finds.0 finds.1 ∙ each;
  few = few;
}
