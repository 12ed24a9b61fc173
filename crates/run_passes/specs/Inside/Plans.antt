-- The passes of a run that are left behind some of them.
use Rattle.std.specs.Prelude.{ℕ, List}
use Rattle.file_passes.specs.Pass.{Pass, found, ◌>>=◌}
use Rattle.model_text.specs.Contents.{Contents, script_names}
use Rattle.model_bind.specs.declared.bound.Bound.{Bound}
use Rattle.rule_model.specs.BoundModel.{BoundModel}
use Rattle.script_bound.specs.declared.script.BoundScript.{BoundScript}
use Rattle.sandbox.specs.declared.act.Act.{Act}
use Rattle.user_session.specs.declared.command.PlanCommand.{PlanCommand}
use Rattle.user_text.specs.declared.command.UserCommand.{UserCommand}
use Rattle.run_passes.specs.declared.ready.Ready.{Ready}
use Rattle.run_passes.specs.declared.run_job.RunJob.{RunJob}
use Rattle.run_passes.specs.declared.run_job.RunJob.TheVariants as jobs
use Rattle.run_passes.specs.RefusalOrder.{deploy_pass, bind_pass, scripts_pass, users_pass, records_pass}
use Rattle.judged_files.specs.ModelFiles.{Checked}
use Rattle.judged_files.specs.Rules.{all_rule_names}
use Rattle.judged_files.specs.Scripts.{script_files}

-- ---- of a model

-- the model with the scripts of these names, where these are the names of the rule files, one of each cube
abbrev pub checked_of : BoundModel → List (List ℕ) → List (List ℕ) → List BoundScript → Checked
checked_of model names rules scripts = record {
  model = model;
  files = record { script_names = names; bound = scripts; rule_files = rules };
}

abbrev pub behind_scripts : List (List ℕ) → List (List ℕ) → BoundModel → List BoundScript → Pass Checked
behind_scripts names rules model scripts = found (checked_of model names rules scripts)

abbrev pub behind_rules : List (List ℕ) → List (List ℕ) → List (List ℕ) → BoundModel → Pass Checked
behind_rules files names rules bound = scripts_pass files >>= behind_scripts names rules bound

abbrev pub behind_text : List ℕ → Contents → Pass Checked
behind_text name contents =
    deploy_pass name contents
    >>= behind_rules (script_files contents.scripts) (script_names contents.scripts) (all_rule_names contents.cubes)

-- ---- of a run

abbrev pub ready_of : Checked → List (List (Act PlanCommand)) → Ready
ready_of checked commands =
    record { model = checked.model; commands = commands; rule_files = checked.files.rule_files }

abbrev pub behind_records : Checked → List (List (Act PlanCommand)) → Pass Ready
behind_records checked commands = found (ready_of checked commands)

abbrev pub behind_users : Checked → List (List UserCommand) → Pass Ready
behind_users checked texts = records_pass checked.files texts >>= behind_records checked

abbrev pub behind_model : List (List ℕ) → Checked → Pass Ready
behind_model users checked = users_pass checked.files.script_names users >>= behind_users checked

abbrev pub served : Ready → Pass RunJob
served ready = found (jobs.Serve ready.model ready.commands)

abbrev pub explained : List ℕ → Ready → Pass RunJob
explained model ready = found (jobs.Explain ready.model model ready.rule_files)

-- ---- of feeders

abbrev pub asked_feeders : Bound → Pass RunJob
asked_feeders bound = found (jobs.Feeders bound)

abbrev pub behind_feeders_text : List ℕ → Contents → Pass RunJob
behind_feeders_text name contents = bind_pass name contents >>= asked_feeders
