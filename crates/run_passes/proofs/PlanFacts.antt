-- The passes of a plan, one after another.
use Rattle.std.proofs.Common.{◌≡◌, ℕ, List, Result, refl, sym, ◌∙◌, ap, subst}
use Rattle.cube_outside.specs.Seen.{Seen}
use Rattle.cube_outside.specs.declared.files.Extent.TheVariants.{Whole}
use Rattle.cube_words.specs.Words.{Plan, Run, Check, Explain, Feeders, Sample, IsPlan}
use Rattle.file_passes.specs.Halting.{Comes}
use Rattle.file_passes.specs.Outside.{Outside, outside}
use Rattle.file_passes.specs.Pass.{Readings, NotWords, Reads, IsTurnOf, Pass, found, the, file, files, judged, ◌>>=◌}
use Rattle.file_passes.specs.declared.halt.Halt.{Halt}
use Rattle.file_passes.proofs.Coming.{comes-next}
use Rattle.file_passes.proofs.Going.{on-refl}
use Rattle.file_passes.proofs.KeptFacts.{IsKept, kept-the, kept-found, kept-files, kept-judged, kept-bind}
use Rattle.file_passes.proofs.PassFacts.{AreAlike, alike-found, alike-bind, alike-behind, alike-judged, alike-once, one-the, one-files}
use Rattle.file_passes.proofs.Steady.{IsSteady, IsSettled, steady-file, steady-files, steady-judged, steady-bind, worded-judged, worded-behind}
use Rattle.judged_files.specs.Loads.{record_files, commands_judgement}
use Rattle.judged_files.specs.Models.{text_judgement}
use Rattle.judged_files.specs.Rules.{rule_names, all_rule_names, deployment_judgement, binding_judgement}
use Rattle.judged_files.specs.ModelFiles.{ModelFiles, Checked}
use Rattle.judged_files.specs.Scripts.{script_files, scripts_judgement}
use Rattle.judged_files.specs.Users.{users_judgement}
use Rattle.judged_files.proofs.Judgements.{one_text_judgement, one_deployment_judgement, one_binding_judgement, no_scripts_refused, one_users_judgement}
use Rattle.model_text.specs.Contents.{script_names, Contents as Text}
use Rattle.rule_model.specs.BoundModel.{BoundModel}
use Rattle.user_text.specs.declared.command.UserCommand.{UserCommand}
use Rattle.run_passes.specs.declared.run_job.RunJob.{RunJob}
use Rattle.run_passes.specs.declared.run_job.RunJob.TheVariants as jobs
use Rattle.run_passes.specs.RefusalOrder.{as_text, text_pass, deploy_pass, bind_pass, scripts_pass, model_pass, users_pass, records_pass, ready_pass, plan_pass, run_of}
use Rattle.run_passes.specs.Inside.Plans.{checked_of, behind_scripts, behind_rules, behind_text, ready_of, behind_records, behind_users, behind_model, served, explained, asked_feeders, behind_feeders_text}
use Rattle.run_passes.proofs.PlanWords.{one_plan}

-- ---- of a model

pub steady-text : (name : List ℕ) → IsSteady (text_pass name)
steady-text name =
    steady-bind (file as_text name) (λ source. judged (text_judgement source)) (steady-file as_text name)
    (λ source. steady-judged (text_judgement source) (one_text_judgement source))

pub steady-deploy : (name : List ℕ) (contents : Text) → IsSteady (deploy_pass name contents)
steady-deploy name contents =
    steady-bind (files as_text (rule_names contents.cubes)) (λ sources. judged (deployment_judgement name contents sources))
    (steady-files as_text (rule_names contents.cubes))
    (λ sources. steady-judged (deployment_judgement name contents sources) (one_deployment_judgement name contents sources))

pub steady-bind-pass : (name : List ℕ) (contents : Text) → IsSteady (bind_pass name contents)
steady-bind-pass name contents =
    steady-bind (files as_text (rule_names contents.cubes)) (λ sources. judged (binding_judgement name contents sources))
    (steady-files as_text (rule_names contents.cubes))
    (λ sources. steady-judged (binding_judgement name contents sources) (one_binding_judgement name contents sources))

pub kept-scripts : (names : List (List ℕ)) → IsKept (scripts_pass names)
kept-scripts names =
    kept-bind (files as_text names) (λ sources. judged (scripts_judgement sources)) (kept-files as_text names) (λ sources. kept-judged (scripts_judgement sources))

settled-scripts : (names : List (List ℕ)) → IsSettled (scripts_pass names)
settled-scripts names = record {
  alike = alike-behind (files as_text names) (λ sources. judged (scripts_judgement sources)) (λ sources. judged (scripts_judgement sources)) (one-files as_text names)
      (λ sources. alike-once (scripts_judgement sources) (no_scripts_refused sources));
  worded = worded-behind (files as_text names) (λ sources. judged (scripts_judgement sources)) (steady-files as_text names).worded
      (λ sources. worded-judged (scripts_judgement sources));
}

kept-behind_rules : (files names rules : List (List ℕ)) (bound : BoundModel) → IsKept (behind_rules files names rules bound)
kept-behind_rules files names rules bound =
    kept-bind (scripts_pass files) (behind_scripts names rules bound) (kept-scripts files) (λ trees. kept-found (checked_of bound names rules trees))

kept-behind_text : (name : List ℕ) (contents : Text) → IsKept (behind_text name contents)
kept-behind_text name contents =
    kept-bind (deploy_pass name contents) (behind_rules (script_files contents.scripts) (script_names contents.scripts) (all_rule_names contents.cubes)) (steady-deploy name contents).kept
    (kept-behind_rules (script_files contents.scripts) (script_names contents.scripts) (all_rule_names contents.cubes))

pub kept-model : (name : List ℕ) → IsKept (model_pass name)
kept-model name = kept-bind (text_pass name) (behind_text name) (steady-text name).kept (kept-behind_text name)

settled-behind_rules : (files names rules : List (List ℕ)) (bound : BoundModel) → IsSettled (behind_rules files names rules bound)
settled-behind_rules files names rules bound =
    let scripts = settled-scripts files in
    record {
      alike = alike-bind (scripts_pass files) (scripts_pass files) (behind_scripts names rules bound) (behind_scripts names rules bound) scripts.alike scripts.alike
          (λ readings a b p q. alike-found (checked_of bound names rules a) (checked_of bound names rules b));
      worded = worded-behind (scripts_pass files) (behind_scripts names rules bound) scripts.worded (λ trees readings stops. stops);
    }

settled-behind_text : (name : List ℕ) (contents : Text) → IsSettled (behind_text name contents)
settled-behind_text name contents =
    let behind = behind_rules (script_files contents.scripts) (script_names contents.scripts) (all_rule_names contents.cubes) in
    let settled = settled-behind_rules (script_files contents.scripts) (script_names contents.scripts) (all_rule_names contents.cubes) in
    record {
      alike = alike-behind (deploy_pass name contents) behind behind (steady-deploy name contents).one (λ bound. (settled bound).alike);
      worded = worded-behind (deploy_pass name contents) behind (steady-deploy name contents).worded (λ bound. (settled bound).worded);
    }

settled-model : (name : List ℕ) → IsSettled (model_pass name)
settled-model name = record {
  alike = alike-behind (text_pass name) (behind_text name) (behind_text name) (steady-text name).one (λ contents. (settled-behind_text name contents).alike);
  worded = worded-behind (text_pass name) (behind_text name) (steady-text name).worded (λ contents. (settled-behind_text name contents).worded);
}

-- the names of the scripts are told by the model's text
same-names : (name : List ℕ) (readings : Readings) (a b : Checked) → (model_pass name).finds readings a → (model_pass name).finds readings b
    → a.files.script_names ≡ b.files.script_names
same-names name readings a b p q =
    let text : p.0 ≡ q.0 = (steady-text name).one.one_found readings p.0 q.0 p.1 q.1 in
    let names_in : Text → List (List ℕ) = λ contents. script_names contents.scripts in
    let names_of : Checked → List (List ℕ) = λ checked. checked.files.script_names in
    ap names_of p.2.2.2 ∙ ap names_in text ∙ sym (ap names_of q.2.2.2)

-- ---- of users

pub steady-users : (scripts names : List (List ℕ)) → IsSteady (users_pass scripts names)
steady-users scripts names =
    steady-bind (files as_text names) (λ sources. judged (users_judgement scripts sources)) (steady-files as_text names)
    (λ sources. steady-judged (users_judgement scripts sources) (one_users_judgement scripts sources))

alike-records : (a b : ModelFiles) (texts : List (List UserCommand)) → AreAlike (records_pass a texts) (records_pass b texts)
alike-records a b texts =
    alike-behind (files Whole (record_files texts)) (λ sources. judged (commands_judgement a sources texts)) (λ sources. judged (commands_judgement b sources texts))
    (one-files Whole (record_files texts))
    (λ sources. alike-judged (commands_judgement a sources texts) (commands_judgement b sources texts) (λ r never. never) (λ r never. never))

worded-records : (model_files : ModelFiles) (texts : List (List UserCommand)) (readings : Readings) → (records_pass model_files texts).stops readings NotWords → ⊥
worded-records model_files texts =
    worded-behind (files Whole (record_files texts)) (λ sources. judged (commands_judgement model_files sources texts)) (steady-files Whole (record_files texts)).worded
    (λ sources. worded-judged (commands_judgement model_files sources texts))

alike-behind_users : (a b : Checked) (texts : List (List UserCommand)) → AreAlike (behind_users a texts) (behind_users b texts)
alike-behind_users a b texts =
    alike-bind (records_pass a.files texts) (records_pass b.files texts) (behind_records a) (behind_records b)
    (alike-records a.files b.files texts) (alike-records b.files a.files texts)
    (λ readings x y p q. alike-found (ready_of a x) (ready_of b y))

alike-behind_model : (users : List (List ℕ)) (a b : Checked) → a.files.script_names ≡ b.files.script_names → AreAlike (behind_model users a) (behind_model users b)
alike-behind_model users a b same =
    subst (λ names. AreAlike (behind_model users a) (users_pass names users >>= behind_users b)) same
    (alike-behind (users_pass a.files.script_names users) (behind_users a) (behind_users b) (steady-users a.files.script_names users).one (alike-behind_users a b))

worded-behind_model : (users : List (List ℕ)) (checked : Checked) (readings : Readings) → (behind_model users checked).stops readings NotWords → ⊥
worded-behind_model users checked =
    worded-behind (users_pass checked.files.script_names users) (behind_users checked) (steady-users checked.files.script_names users).worded
    (λ texts. worded-behind (records_pass checked.files texts) (behind_records checked) (worded-records checked.files texts) (λ commands readings stops. stops))

settled-ready : (model : List ℕ) (users : List (List ℕ)) → IsSettled (ready_pass model users)
settled-ready model users =
    let settled = settled-model model in
    record {
      alike = alike-bind (model_pass model) (model_pass model) (behind_model users) (behind_model users) settled.alike settled.alike
          (λ readings a b p q. alike-behind_model users a b (same-names model readings a b p q));
      worded = worded-behind (model_pass model) (behind_model users) settled.worded (worded-behind_model users);
    }

-- ---- of feeders

alike-feeders : (name : List ℕ) (contents : Text) → AreAlike (behind_feeders_text name contents) (behind_feeders_text name contents)
alike-feeders name contents =
    alike-behind (bind_pass name contents) asked_feeders asked_feeders (steady-bind-pass name contents).one (λ bound. alike-found (jobs.Feeders bound) (jobs.Feeders bound))

worded-feeders : (name : List ℕ) (contents : Text) (readings : Readings) → (behind_feeders_text name contents).stops readings NotWords → ⊥
worded-feeders name contents =
    worded-behind (bind_pass name contents) asked_feeders (steady-bind-pass name contents).worded (λ bound readings stops. stops)

-- ---- of each plan

abbrev pub accept : Checked → Pass RunJob
accept checked = found (jobs.Check checked.model)

pub settled-plan : (plan : Plan) → IsSettled (plan_pass plan)
settled-plan (Run model users) =
    let settled = settled-ready model users in
    record {
      alike = alike-bind (ready_pass model users) (ready_pass model users) served served settled.alike settled.alike
          (λ readings a b p q. alike-found (jobs.Serve a.model a.commands) (jobs.Serve b.model b.commands));
      worded = worded-behind (ready_pass model users) served settled.worded (λ ready readings stops. stops);
    }
settled-plan (Explain model users) =
    let settled = settled-ready model users in
    record {
      alike = alike-bind (ready_pass model users) (ready_pass model users) (explained model) (explained model) settled.alike settled.alike
          (λ readings a b p q. alike-found (jobs.Explain a.model model a.rule_files) (jobs.Explain b.model model b.rule_files));
      worded = worded-behind (ready_pass model users) (explained model) settled.worded (λ ready readings stops. stops);
    }
settled-plan (Check model) =
    let settled = settled-model model in
    record {
      alike = alike-bind (model_pass model) (model_pass model) accept accept settled.alike settled.alike
          (λ readings a b p q. alike-found (jobs.Check a.model) (jobs.Check b.model));
      worded = worded-behind (model_pass model) accept settled.worded (λ checked readings stops. stops);
    }
settled-plan (Feeders model) = record {
  alike = alike-behind (text_pass model) (behind_feeders_text model) (behind_feeders_text model) (steady-text model).one (λ contents. alike-feeders model contents);
  worded = worded-behind (text_pass model) (behind_feeders_text model) (steady-text model).worded (λ contents. worded-feeders model contents);
}
settled-plan (Sample size) = record { alike = alike-found (jobs.Sample size) (jobs.Sample size); worded = λ readings stops. stops }

-- a run stops in one way over the files that it has read, and finds no job where it stops
pub one_run : (words : List (List ℕ)) → AreAlike (run_of words) (run_of words)
one_run words =
    alike-behind (the (IsPlan words) NotWords) plan_pass plan_pass (one-the (IsPlan words) NotWords (one_plan words)) (λ plan. (settled-plan plan).alike)

module _ {F : Type 0} (seen : F → Seen) where
  abbrev from : F → F → Outside
  from a b = outside seen a b

  pub run-planned : (words : List (List ℕ)) (a c : F) (old new : Readings) (plan : Plan) (r : Result RunJob Halt)
      → IsPlan words plan → Comes (plan_pass plan) (from a c) old new r → Comes (run_of words) (from a c) old new r
  run-planned words a c old new plan r is came =
      comes-next seen (the (IsPlan words) NotWords) plan_pass (kept-the (IsPlan words) NotWords) a a c old old new plan refl
      (on-refl (the (IsPlan words) NotWords) (seen a).known old, refl, λ base begun. begun) is r came

-- a run that finds a job ends at no file
pub found_ends : (words : List (List ℕ)) (readings : Readings) (job : RunJob) → (run_of words).finds readings job
    → (name : List ℕ) → ¬ IsTurnOf (run_of words) readings name
found_ends words readings job finds name (extent, stops) = (one_run words).not_both readings job (Reads extent name) finds stops
