-- When two jobs of a run are the same, however loads keep their scripts and records, and traces the names of rule
-- files.
use Rattle.std.specs.Prelude.{◌≡◌}
use Rattle.std.specs.Arc.{arc_value}
use Rattle.std.specs.List.{AllZip}
use Rattle.user_text.specs.Jobs.{rows_in}
use Rattle.user_text.specs.declared.load_job.LoadJob.{LoadJob}
use Rattle.sandbox.specs.declared.act.Act.{Act}
use Rattle.sandbox.specs.declared.act.Act.TheVariants as acts
use Rattle.script_bound.specs.declared.script.BoundScript.{BoundScript}
use Rattle.user_session.specs.declared.command.PlanCommand.{PlanCommand}
use Rattle.user_session.specs.declared.command.PlanCommand.TheVariants as plans
use Rattle.run_passes.specs.declared.run_job.RunJob.{RunJob}
use Rattle.run_passes.specs.declared.run_job.RunJob.TheVariants as jobs

-- two loads run one script, at one place in the model, over the same records, with the same byte between units and
-- decimals, as many records that may be passed over, and the same variables set
pub record IsSameLoad (job other : LoadJob) (bound again : BoundScript) : Type 0 where
  pub place : job.script ≡ other.script
  pub script : bound ≡ again
  pub records : rows_in job ≡ rows_in other
  pub decimal : job.decimal ≡ other.decimal
  pub rejects : job.rejects ≡ other.rejects
  pub params : job.params ≡ other.params

-- two commands are equal; two loads run alike, and two traces of one cell have the same names of rule files
abbrev pub IsSameCommand : PlanCommand → PlanCommand → Type 0
IsSameCommand (plans.Put cell number) command = command ≡ plans.Put cell number
IsSameCommand (plans.Get cell) command = command ≡ plans.Get cell
IsSameCommand (plans.Load job script) (plans.Put cell number) = ⊥
IsSameCommand (plans.Load job script) (plans.Get cell) = ⊥
IsSameCommand (plans.Load job script) (plans.Load other again) =
    IsSameLoad job other (arc_value script) (arc_value again)
IsSameCommand (plans.Load job script) (plans.View view) = ⊥
IsSameCommand (plans.Load job script) (plans.Spread cell amount how) = ⊥
IsSameCommand (plans.Load job script) (plans.Trace cell files) = ⊥
IsSameCommand (plans.Load job script) (plans.Fixed writes) = ⊥
IsSameCommand (plans.View view) command = command ≡ plans.View view
IsSameCommand (plans.Spread cell amount how) command = command ≡ plans.Spread cell amount how
IsSameCommand (plans.Trace cell files) (plans.Put other number) = ⊥
IsSameCommand (plans.Trace cell files) (plans.Get other) = ⊥
IsSameCommand (plans.Trace cell files) (plans.Load job script) = ⊥
IsSameCommand (plans.Trace cell files) (plans.View view) = ⊥
IsSameCommand (plans.Trace cell files) (plans.Spread other amount how) = ⊥
IsSameCommand (plans.Trace cell files) (plans.Trace other again) =
    (cell ≡ other) × (arc_value files ≡ arc_value again)
IsSameCommand (plans.Trace cell files) (plans.Fixed writes) = ⊥
IsSameCommand (plans.Fixed writes) command = command ≡ plans.Fixed writes

-- the same of what a user does, with commands or with the sandbox
abbrev pub IsSameAct : Act PlanCommand → Act PlanCommand → Type 0
IsSameAct acts.Open act = act ≡ acts.Open
IsSameAct acts.Publish act = act ≡ acts.Publish
IsSameAct acts.Discard act = act ≡ acts.Discard
IsSameAct (acts.Do command) acts.Open = ⊥
IsSameAct (acts.Do command) acts.Publish = ⊥
IsSameAct (acts.Do command) acts.Discard = ⊥
IsSameAct (acts.Do command) (acts.Do other) = IsSameCommand command other

-- two jobs run the same commands on one model; other jobs are equal
abbrev pub IsSameJob : RunJob → RunJob → Type 0
IsSameJob (jobs.Serve model users) (jobs.Serve other more) =
    (model ≡ other) × AllZip (AllZip IsSameAct) users more
IsSameJob (jobs.Serve model users) (jobs.Check other) = ⊥
IsSameJob (jobs.Serve model users) (jobs.Explain other file files) = ⊥
IsSameJob (jobs.Serve model users) (jobs.Feeders bound) = ⊥
IsSameJob (jobs.Serve model users) (jobs.Sample size) = ⊥
IsSameJob (jobs.Check model) job = job ≡ jobs.Check model
IsSameJob (jobs.Explain model file files) job = job ≡ jobs.Explain model file files
IsSameJob (jobs.Feeders bound) job = job ≡ jobs.Feeders bound
IsSameJob (jobs.Sample size) job = job ≡ jobs.Sample size
