-- The passes of a run, in order: the first that refuses gives the refusal.
use Rattle.std.specs.Prelude.{ℕ, ◌+◌, ◌^◌, List}
use Rattle.cube_outside.specs.declared.files.Extent.{Extent}
use Rattle.cube_outside.specs.declared.files.Extent.TheVariants.{Whole, Front}
use Rattle.cube_words.specs.Words.{Plan, Run, Check, Explain, Feeders, Sample, IsPlan}
use Rattle.file_passes.specs.Pass.{Pass, NotWords, found, the, file, files, judged, ◌>>=◌}
use Rattle.model_text.specs.Contents.{Contents, script_names}
use Rattle.model_bind.specs.declared.bound.Bound.{Bound}
use Rattle.rule_model.specs.BoundModel.{BoundModel}
use Rattle.script_bound.specs.declared.script.BoundScript.{BoundScript}
use Rattle.sandbox.specs.declared.act.Act.{Act}
use Rattle.user_session.specs.declared.command.PlanCommand.{PlanCommand}
use Rattle.user_text.specs.declared.command.UserCommand.{UserCommand}
use Rattle.run_passes.specs.declared.ready.Ready.{Ready}
use Rattle.run_passes.specs.declared.run_job.RunJob.{RunJob}
use Rattle.run_passes.specs.declared.run_job.RunJob.TheVariants as jobs
use Rattle.judged_files.specs.Models.{text_judgement}
use Rattle.judged_files.specs.Rules.{rule_names, all_rule_names, deployment_judgement, binding_judgement}
use Rattle.judged_files.specs.ModelFiles.{ModelFiles, Checked}
use Rattle.judged_files.specs.Scripts.{script_files, scripts_judgement}
use Rattle.judged_files.specs.Users.{users_judgement}
use Rattle.judged_files.specs.Loads.{record_files, commands_judgement}

-- A text may have 2^30 bytes. Of a longer one no more is read than the first byte too many, for which it is refused.
abbrev pub as_text : Extent
as_text = Front (2 ^ 30 + 1)

-- the model file is read, and is a model text
abbrev pub text_pass : List ℕ → Pass Contents
text_pass name = do
  source ← file as_text name
  judged (text_judgement source)

-- the files of the cubes' rules are read, and with them the model is deployed
abbrev pub deploy_pass : List ℕ → Contents → Pass BoundModel
deploy_pass name contents = do
  sources ← files as_text (rule_names contents.cubes)
  judged (deployment_judgement name contents sources)

-- or is bound
abbrev pub bind_pass : List ℕ → Contents → Pass Bound
bind_pass name contents = do
  sources ← files as_text (rule_names contents.cubes)
  judged (binding_judgement name contents sources)

-- all script files are read, and are scripts
abbrev pub scripts_pass : List (List ℕ) → Pass (List BoundScript)
scripts_pass names = do
  sources ← files as_text names
  judged (scripts_judgement sources)

-- the model with all that belongs to it
abbrev pub model_pass : List ℕ → Pass Checked
model_pass name = do
  contents ← text_pass name
  bound ← deploy_pass name contents
  scripts ← scripts_pass (script_files contents.scripts)
  found (record {
    model = bound;
    files = record {
      script_names = script_names contents.scripts;
      bound = scripts;
      rule_files = all_rule_names contents.cubes;
    };
  })

-- all user files are read, and are users' texts, in which each load is one of a script of these names
abbrev pub users_pass : List (List ℕ) → List (List ℕ) → Pass (List (List UserCommand))
users_pass scripts names = do
  sources ← files as_text names
  judged (users_judgement scripts sources)

-- the files of all records are read whole, and with them the commands are run
abbrev pub records_pass : ModelFiles → List (List UserCommand) → Pass (List (List (Act PlanCommand)))
records_pass model_files users = do
  sources ← files Whole (record_files users)
  judged (commands_judgement model_files sources users)

-- the model, the commands of its users as they are run, and the names of its rule files
abbrev pub ready_pass : List ℕ → List (List ℕ) → Pass Ready
ready_pass model users = do
  checked ← model_pass model
  texts ← users_pass checked.files.script_names users
  commands ← records_pass checked.files texts
  found (record { model = checked.model; commands = commands; rule_files = checked.files.rule_files })

-- the passes of each plan; an explanation has those of a run
abbrev pub plan_pass : Plan → Pass RunJob
plan_pass (Run model users) = do
  ready ← ready_pass model users
  found (jobs.Serve ready.model ready.commands)
plan_pass (Check model) = do
  checked ← model_pass model
  found (jobs.Check checked.model)
plan_pass (Explain model users) = do
  ready ← ready_pass model users
  found (jobs.Explain ready.model model ready.rule_files)
plan_pass (Feeders model) = do
  contents ← text_pass model
  bound ← bind_pass model contents
  found (jobs.Feeders bound)
plan_pass (Sample size) = found (jobs.Sample size)

-- the words are in the grammar, and then their plan is carried out
abbrev pub run_of : List (List ℕ) → Pass RunJob
run_of words = the (IsPlan words) NotWords >>= plan_pass
