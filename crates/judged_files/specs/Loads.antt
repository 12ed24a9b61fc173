-- Users' commands as they are run: with the scripts of their loads, the records, and the names of the rule files. What
-- opens or ends a sandbox is no command of the model.
use Rattle.std.specs.Prelude.{◌≡◌, ℕ, List, [], Option, Some, None, IsSome, IfSome, IsTrue, All}
use Rattle.std.specs.Prelude.{option_map, filter_map, slice_get}
use Rattle.std.specs.Arc.{arc_value}
use Rattle.std.specs.List.{AllZip, flat_map}
use Rattle.std.specs.declared.alloc.Global.{Global}
use Rattle.std.specs.declared.sync.Arc.{Arc}
use Rattle.dim_name.specs.Name.{has_name, place_of}
use Rattle.file_passes.specs.Pass.{Source, source_of, Judgement}
use Rattle.user_text.specs.Rows.{rows_of}
use Rattle.user_text.specs.Jobs.{rows_in}
use Rattle.user_text.specs.declared.load_job.LoadJob.{LoadJob}
use Rattle.script_bound.specs.declared.script.BoundScript.{BoundScript}
use Rattle.sandbox.specs.declared.act.Act.{Act}
use Rattle.sandbox.specs.declared.act.Act.TheVariants as acts
use Rattle.user_session.specs.declared.command.PlanCommand.{PlanCommand}
use Rattle.user_session.specs.declared.command.PlanCommand.TheVariants as plans
use Rattle.user_text.specs.declared.command.CellText.{CellText}
use Rattle.user_text.specs.declared.command.LoadText.{LoadText}
use Rattle.user_text.specs.declared.command.UserBody.{UserBody}
use Rattle.user_text.specs.declared.command.UserBody.TheVariants as bodies
use Rattle.user_text.specs.declared.command.UserCommand.{UserCommand}
use Rattle.judged_files.specs.ModelFiles.{ModelFiles}

-- the file of a load's records
abbrev pub file_of : UserBody → Option (List ℕ)
file_of (bodies.Put cell number) = None
file_of (bodies.Get cell) = None
file_of (bodies.Load load) = load.file
file_of (bodies.View view) = None
file_of (bodies.Spread cell amount how) = None
file_of (bodies.Trace cell) = None
file_of bodies.Sandbox = None
file_of bodies.Publish = None
file_of bodies.Discard = None

-- the files of a user's records, in the order of the commands
abbrev pub user_files : List UserCommand → List (List ℕ)
user_files commands = filter_map (λ command. file_of command.body) commands

-- the files of all records, in the order of the users
abbrev pub record_files : List (List UserCommand) → List (List ℕ)
record_files users = flat_map user_files users

-- the records of the file of this name, with this byte between columns, behind those that are skipped; without a
-- file there are none
abbrev pub records_of : List Source → Option (List ℕ) → ℕ → ℕ → Option (List (List (List ℕ)))
records_of sources None separator skip = Some []
records_of sources (Some name) separator skip =
    option_map (λ source. rows_of separator skip source.1) (source_of sources name)

-- a load's script is one of the model, and its file is one of those that were read
pub record IsReadyLoad (files : ModelFiles) (sources : List Source) (load : LoadText) : Type 0 where
  pub known : IsTrue (has_name files.script_names load.script)
  pub read : IfSome load.file (λ name. IsSome (source_of sources name))

-- the same of a command, where it is a load
abbrev pub IsReady : ModelFiles → List Source → UserBody → Type 0
IsReady files sources (bodies.Put cell number) = Unit {0}
IsReady files sources (bodies.Get cell) = Unit {0}
IsReady files sources (bodies.Load load) = IsReadyLoad files sources load
IsReady files sources (bodies.View view) = Unit {0}
IsReady files sources (bodies.Spread cell amount how) = Unit {0}
IsReady files sources (bodies.Trace cell) = Unit {0}
IsReady files sources bodies.Sandbox = Unit {0}
IsReady files sources bodies.Publish = Unit {0}
IsReady files sources bodies.Discard = Unit {0}

abbrev pub AreReady : ModelFiles → List Source → List UserCommand → Type 0
AreReady files sources commands = All (λ command. IsReady files sources command.body) commands

-- a load as it is run: by the place of its script in the model, with its records, the byte between units and decimals
-- of their numbers, how many records may be passed over, and what is set
pub record IsLoad (files : ModelFiles) (sources : List Source) (load : LoadText) (job : LoadJob) (bound : BoundScript)
    : Type 0 where
  pub place : place_of files.script_names load.script ≡ Some job.script
  pub script : slice_get files.bound job.script ≡ Some bound
  pub records : records_of sources load.file load.separator load.skip ≡ Some (rows_in job)
  pub decimal : job.decimal ≡ load.decimal
  pub rejects : job.rejects ≡ load.rejects
  pub params : job.params ≡ load.params

abbrev pub IsLoadCommand : ModelFiles → List Source → LoadText → Act PlanCommand → Type 0
IsLoadCommand files sources load command = (job : LoadJob) × (script : Arc BoundScript Global)
    × (command ≡ acts.Do (plans.Load job script)) × IsLoad files sources load job (arc_value script)

-- a trace as it is run: with the names of the rule files
abbrev pub IsTraceCommand : ModelFiles → CellText → Act PlanCommand → Type 0
IsTraceCommand files cell command = (names : Arc (List (List ℕ)) Global)
    × (command ≡ acts.Do (plans.Trace cell names)) × (arc_value names ≡ files.rule_files)

-- a command as it is run
abbrev pub IsCommand : ModelFiles → List Source → UserBody → Act PlanCommand → Type 0
IsCommand files sources (bodies.Put cell number) command = command ≡ acts.Do (plans.Put cell number)
IsCommand files sources (bodies.Get cell) command = command ≡ acts.Do (plans.Get cell)
IsCommand files sources (bodies.Load load) command = IsLoadCommand files sources load command
IsCommand files sources (bodies.View view) command = command ≡ acts.Do (plans.View view)
IsCommand files sources (bodies.Spread cell amount how) command = command ≡ acts.Do (plans.Spread cell amount how)
IsCommand files sources (bodies.Trace cell) command = IsTraceCommand files cell command
IsCommand files sources bodies.Sandbox command = command ≡ acts.Open
IsCommand files sources bodies.Publish command = command ≡ acts.Publish
IsCommand files sources bodies.Discard command = command ≡ acts.Discard

-- the commands of a user, each as it is run
abbrev pub AreCommands : ModelFiles → List Source → List UserCommand → List (Act PlanCommand) → Type 0
AreCommands files sources texts commands =
    AllZip (λ text command. IsCommand files sources text.body command) texts commands

-- the commands of all users; nothing of it is refused
abbrev pub commands_judgement :
    ModelFiles → List Source → List (List UserCommand) → Judgement (List (List (Act PlanCommand)))
commands_judgement files sources users = record {
  stands_for = AllZip (AreCommands files sources) users;
  refused_for = λ _. ⊥;
}
