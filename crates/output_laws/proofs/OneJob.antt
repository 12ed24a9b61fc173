-- The passes of a run find one job.
use Rattle.std.proofs.Common.{◌≡◌, ℕ, List, refl, sym, ◌∙◌, subst, ap}
use Rattle.std.specs.List.{AllZip}
use Rattle.cube_outside.specs.declared.files.Extent.TheVariants.{Whole}
use Rattle.cube_words.specs.Words.{Plan, Run, Check, Explain, Feeders, Sample, IsPlan}
use Rattle.file_passes.specs.Pass.{Readings, NotWords, Pass, found, the, files, judged, ◌>>=◌}
use Rattle.file_passes.proofs.PassFacts.{one-files}
use Rattle.judged_files.specs.Loads.{record_files, commands_judgement}
use Rattle.judged_files.specs.ModelFiles.{ModelFiles, Checked}
use Rattle.judged_files.specs.Rules.{all_rule_names}
use Rattle.judged_files.specs.Scripts.{script_files, scripts_judgement}
use Rattle.model_text.specs.Contents.{script_names, Contents as Text}
use Rattle.model_bind.specs.declared.bound.Bound.{Bound}
use Rattle.rule_model.specs.BoundModel.{BoundModel}
use Rattle.run_passes.specs.Inside.Plans.{behind_scripts, behind_rules, behind_text, behind_users, behind_model, asked_feeders, behind_feeders_text}
use Rattle.run_passes.specs.RefusalOrder.{as_text, text_pass, deploy_pass, bind_pass, scripts_pass, model_pass}
use Rattle.run_passes.specs.RefusalOrder.{users_pass, records_pass, ready_pass, plan_pass, run_of}
use Rattle.run_passes.specs.declared.ready.Ready.{Ready}
use Rattle.run_passes.specs.declared.run_job.RunJob.{RunJob}
use Rattle.run_passes.specs.declared.run_job.RunJob.TheVariants as jobs
use Rattle.run_passes.proofs.PlanFacts.{steady-text, steady-deploy, steady-bind-pass, steady-users, accept}
use Rattle.run_passes.proofs.PlanWords.{one_plan}
use Rattle.script_text_laws.specs.ScriptAnswers.{OneScriptAnswer}
use Rattle.sandbox.specs.declared.act.Act.{Act}
use Rattle.user_session.specs.declared.command.PlanCommand.{PlanCommand}
use Rattle.user_text.specs.declared.command.UserCommand.{UserCommand}
use Rattle.output_laws.specs.SameJob.{IsSameAct, IsSameJob}
use Rattle.output_laws.proofs.OneScripts.{one_list}
use Rattle.output_laws.proofs.OneCommands.{same_users}

-- what a pass finds over one list of files is the same
abbrev FindsSame : {A : Type 0} → (A → A → Type 0) → Pass A → Type 0
FindsSame {A} Same P = (readings : Readings) (a b : A) → P.finds readings a → P.finds readings b → Same a b

-- what a pass finds over one list of files is one thing
abbrev FindsOne : {A : Type 0} → Pass A → Type 0
FindsOne {A} P = FindsSame (λ a b. a ≡ b) P

-- a pass behind one that finds one thing
same-behind : {A B : Type 0} (Same : B → B → Type 0) (P : Pass A) (K : A → Pass B)
    → FindsOne P → ((a : A) → FindsSame Same (K a)) → FindsSame Same (P >>= K)
same-behind Same P K one next readings b c (x, is, p) (y, too, q) =
    next x readings b c p (subst (λ a. (K a).finds readings c) (sym (one readings x y is too)) q)

same-mapped : {A B : Type 0} (Same : A → A → Type 0) (Alike : B → B → Type 0) (P : Pass A) (f : A → B)
    → FindsSame Same P → ((x y : A) → Same x y → Alike (f x) (f y)) → FindsSame Alike (P >>= λ x. found (f x))
same-mapped Same Alike P f same fits readings a b (x, is, p) (y, too, q) =
    rw (p, q) (fits x y (same readings x y is too))

one-behind : {A B : Type 0} (P : Pass A) (K : A → Pass B)
    → FindsOne P → ((a : A) → FindsOne (K a)) → FindsOne (P >>= K)
one-behind P K one next = same-behind (λ a b. a ≡ b) P K one next

-- ---- of users

same-records : (model_files : ModelFiles) (texts : List (List UserCommand))
    → FindsSame (AllZip (AllZip IsSameAct)) (records_pass model_files texts)
same-records model_files texts =
    same-behind (AllZip (AllZip IsSameAct)) (files Whole (record_files texts))
    (λ sources. judged (commands_judgement model_files sources texts)) (one-files Whole (record_files texts)).one_found
    (λ sources readings a b. same_users model_files sources texts a b)

-- one model, the same commands of its users, and the same names of its rule files
abbrev IsSameReady : Ready → Ready → Type 0
IsSameReady a b =
    (a.model ≡ b.model) × AllZip (AllZip IsSameAct) a.commands b.commands × (a.rule_files ≡ b.rule_files)

same-behind_users : (checked : Checked) (texts : List (List UserCommand))
    → FindsSame IsSameReady (behind_users checked texts)
same-behind_users checked texts readings a b (xs, is, p) (ys, too, q) =
    rw (p, q) (refl, same-records checked.files texts readings xs ys is too, refl)

same-behind_model : (users : List (List ℕ)) (checked : Checked) → FindsSame IsSameReady (behind_model users checked)
same-behind_model users checked =
    same-behind IsSameReady (users_pass checked.files.script_names users) (behind_users checked)
    (steady-users checked.files.script_names users).one.one_found (same-behind_users checked)

-- ---- of each plan

same-accepted : (model : BoundModel) (a b : RunJob) → a ≡ jobs.Check model → b ≡ jobs.Check model → IsSameJob a b
same-accepted model a b p q = rw p q

same-feeders : (bound : Bound) (a b : RunJob) → a ≡ jobs.Feeders bound → b ≡ jobs.Feeders bound → IsSameJob a b
same-feeders bound a b p q = rw p q

same-sample : (size : ℕ) (a b : RunJob) → a ≡ jobs.Sample size → b ≡ jobs.Sample size → IsSameJob a b
same-sample size a b p q = rw p q

-- ---- of a model, where the bytes of a script have one answer

module _ (answers : (bytes : List ℕ) → OneScriptAnswer bytes) where
  one-scripts : (names : List (List ℕ)) → FindsOne (scripts_pass names)
  one-scripts names =
      one-behind (files as_text names) (λ sources. judged (scripts_judgement sources))
      (one-files as_text names).one_found (λ sources readings a b. one_list answers sources a b)

  one-behind_rules : (files names rules : List (List ℕ)) (bound : BoundModel)
      → FindsOne (behind_rules files names rules bound)
  one-behind_rules files names rules bound =
      one-behind (scripts_pass files) (behind_scripts names rules bound) (one-scripts files)
      (λ scripts readings a b p q. p ∙ sym q)

  one-behind_text : (name : List ℕ) (contents : Text) → FindsOne (behind_text name contents)
  one-behind_text name contents =
      let files = script_files contents.scripts in
      let names = script_names contents.scripts in
      let rules = all_rule_names contents.cubes in
      one-behind (deploy_pass name contents) (behind_rules files names rules)
      (steady-deploy name contents).one.one_found (one-behind_rules files names rules)

  one-model : (name : List ℕ) → FindsOne (model_pass name)
  one-model name =
      one-behind (text_pass name) (behind_text name) (steady-text name).one.one_found (one-behind_text name)

  -- ---- of a run

  same-ready : (model : List ℕ) (users : List (List ℕ)) → FindsSame IsSameReady (ready_pass model users)
  same-ready model users =
      same-behind IsSameReady (model_pass model) (behind_model users) (one-model model) (same-behind_model users)

  same-plan : (plan : Plan) → FindsSame IsSameJob (plan_pass plan)
  same-plan (Run model users) =
      same-mapped IsSameReady IsSameJob (ready_pass model users) (λ ready. jobs.Serve ready.model ready.commands)
      (same-ready model users) (λ x y same. (same.0, same.1))
  same-plan (Check model) =
      same-behind IsSameJob (model_pass model) accept (one-model model)
      (λ checked readings a b. same-accepted checked.model a b)
  same-plan (Explain model users) =
      same-mapped IsSameReady IsSameJob (ready_pass model users) (λ ready. jobs.Explain ready.model model ready.rule_files)
      (same-ready model users) (λ x y same. ap (λ m. jobs.Explain m model y.rule_files) (sym same.0) ∙ ap (jobs.Explain x.model model) (sym same.2))
  same-plan (Feeders model) =
      same-behind IsSameJob (text_pass model) (behind_feeders_text model) (steady-text model).one.one_found
      (λ contents. same-behind IsSameJob (bind_pass model contents) asked_feeders (steady-bind-pass model contents).one.one_found
      (λ bound readings a b. same-feeders bound a b))
  same-plan (Sample size) = λ readings a b p q. same-sample size a b p q

  pub same_run : (words : List (List ℕ)) → FindsSame IsSameJob (run_of words)
  same_run words =
      same-behind IsSameJob (the (IsPlan words) NotWords) plan_pass (λ readings a b. one_plan words a b) same-plan
