-- What was read is judged to be one thing.
use Rattle.std.proofs.Common.{◌≡◌, ◌≢◌, ℕ, ◌+◌, List, [], ◌∷◌, length, Some, None, inl, inr, refl, sym, ◌∙◌, ap, subst}
use Rattle.user_text.specs.declared.command.UserCommand.{UserCommand}
use Rattle.user_text.specs.declared.fault.UserFault.{UserFault}
use Rattle.user_text.specs.declared.fault.UserFault.TheVariants as user_faults
use Rattle.model_text.specs.Contents.{Contents}
use Rattle.model_text.specs.declared.fault.ModelTextFault.{ModelTextFault}
use Rattle.model_text.specs.declared.fault.ModelTextCause.TheVariants as text_causes
use Rattle.text_laws.proofs.UserTexts.{user_texts}
use Rattle.text_laws.proofs.ModelTexts.{model_texts}
use Rattle.file_passes.specs.declared.refusal.Refusal.{Refusal}
use Rattle.file_passes.specs.Pass.{Source}
use Rattle.judged_files.specs.Refusals.{text_refusal, script_refusal, user_refusal}
use Rattle.judged_files.specs.Models.{text_judgement}
use Rattle.judged_files.specs.Scripts.{AreScripts, IsFirstScriptFault, scripts_judgement}
use Rattle.judged_files.specs.Rules.{rule_files, stage_judgement, deployment_judgement, binding_judgement}
use Rattle.judged_files.specs.Users.{IsUserText, AreUserTexts, IsUserFault, IsFirstFault, AreUsers, users_judgement, unknown_script}
use Rattle.file_passes.proofs.PassFacts.{IsOneJudgement}
use Rattle.script_reader.specs.declared.fault.ScriptFault.{ScriptFault}
use Rattle.script_reader.specs.declared.fault.ScriptFault.TheVariants as script_faults
use Rattle.script_bound.specs.declared.script.BoundScript.{BoundScript}
use Rattle.judged_files.proofs.ScriptTexts.{no_fault_of_script}
use Rattle.model_bind.specs.Binding.{binding}
use Rattle.model_bind.specs.Stages.{Stage}
use Rattle.model_deploy.specs.Deployment.{deployment}
use Rattle.deploy_laws.specs.OneAnswer.{HasOneAnswer}
use Rattle.deploy_laws.proofs.Deployments.{single-binding, single-deployment}

-- ---- user files

no_memory : (file : List ℕ) (fault : UserFault) (refusal : Refusal) → user_refusal file fault ≡ Some refusal → fault ≢ user_faults.Memory
no_memory file fault refusal is memory = (let clash : None ≡ Some refusal = rw memory at is in cc)

module _ (before : ℕ) (source : Source) where
  one_list : (x y : List UserCommand) → IsUserText before source.1 x → IsUserText before source.1 y → x ≡ y
  one_list x y p q = (user_texts source.1 before).one_list x y p q

  no_fault_of_text : (x : List UserCommand) (r : Refusal) → IsUserText before source.1 x → IsUserFault before source r → ⊥
  no_fault_of_text x r p q = (user_texts source.1 before).not_both x q.fault (no_memory source.0 q.fault r q.is) p q.first

one_texts : (before : ℕ) (sources : List Source) (x y : List (List UserCommand)) → AreUserTexts before sources x → AreUserTexts before sources y → x ≡ y
one_texts before [] [] [] p q = refl
one_texts before [] [] (y ∷ ys) p q = absurd q
one_texts before [] (x ∷ xs) y p q = absurd p
one_texts before (source ∷ more) [] y p q = absurd p
one_texts before (source ∷ more) (x ∷ xs) [] p q = absurd q
one_texts before (source ∷ more) (x ∷ xs) (y ∷ ys) p q =
    let same = one_list before source x y p.0 q.0 in
    let rest = one_texts (before + length y) more xs ys (subst (λ l. AreUserTexts (before + length l) more xs) same p.1) q.1 in
    cc

no_first : (before : ℕ) (sources : List Source) (x : List (List UserCommand)) (r : Refusal) → AreUserTexts before sources x → IsFirstFault before sources r → ⊥
no_first before [] x r p q = q
no_first before (source ∷ more) [] r p q = p
no_first before (source ∷ more) (x ∷ xs) r p (inl q) = no_fault_of_text before source x r p.0 q
no_first before (source ∷ more) (x ∷ xs) r p (inr (y, is, q)) =
    let same = one_list before source y x is p.0 in
    no_first (before + length x) more xs r p.1 (subst (λ l. IsFirstFault (before + length l) more r) same q)

module _ (scripts : List (List ℕ)) (sources : List Source) where
  one_users : (x y : List (List UserCommand)) → AreUsers scripts sources x → AreUsers scripts sources y → x ≡ y
  one_users x y p q = one_texts 0 sources x y p.texts q.texts

  not_both_users : (x : List (List UserCommand)) (r : Refusal) → AreUsers scripts sources x → (users_judgement scripts sources).refused_for r → ⊥
  not_both_users x r p (inl q) = no_first 0 sources x r p.texts q
  not_both_users x r p (inr q) =
      let clash : None ≡ Some r = sym p.known ∙ ap (unknown_script scripts sources) (one_texts 0 sources x q.users p.texts q.texts) ∙ q.first in
      cc

pub one_users_judgement : (scripts : List (List ℕ)) (sources : List Source) → IsOneJudgement (users_judgement scripts sources)
one_users_judgement scripts sources = record { one_thing = one_users scripts sources; not_both = not_both_users scripts sources }

-- ---- the model file

no_want : (file : List ℕ) (fault : ModelTextFault) (refusal : Refusal) → text_refusal file fault ≡ Some refusal → fault.cause ≢ text_causes.Memory
no_want file fault refusal is memory = (let clash : None ≡ Some refusal = rw memory at is in cc)

pub one_text_judgement : (source : Source) → IsOneJudgement (text_judgement source)
one_text_judgement source = record {
  one_thing = (model_texts source.1).one_contents;
  not_both = λ x r p q. (model_texts source.1).not_both x q.fault (no_want source.0 q.fault r q.is) p q.first;
}

-- ---- the script files

no_script_memory : (file : List ℕ) (fault : ScriptFault) (refusal : Refusal) → script_refusal file fault ≡ Some refusal → fault ≢ script_faults.Memory
no_script_memory file fault refusal is memory = (let clash : None ≡ Some refusal = rw memory at is in cc)

no_first_script : (sources : List Source) (scripts : List BoundScript) (r : Refusal) → AreScripts sources scripts → IsFirstScriptFault sources r → ⊥
no_first_script [] scripts r p q = q
no_first_script (source ∷ more) [] r p q = p
no_first_script (source ∷ more) (script ∷ scripts) r p (inl q) = no_fault_of_script source.1 p.0.tree q.fault (no_script_memory source.0 q.fault r q.is) p.0.text q.first
no_first_script (source ∷ more) (script ∷ scripts) r p (inr (other, is, q)) = no_first_script more scripts r p.1 q

-- no files are both scripts and refused
pub no_scripts_refused : (sources : List Source) (scripts : List BoundScript) (r : Refusal)
    → (scripts_judgement sources).stands_for scripts → (scripts_judgement sources).refused_for r → ⊥
no_scripts_refused sources scripts r p q = no_first_script sources scripts r p q

-- ---- the rule files

one_stage_judgement : {A : Type 0} (file : List ℕ) (stage : Stage A) → HasOneAnswer stage → IsOneJudgement (stage_judgement file stage)
one_stage_judgement file stage one = record { one_thing = one.one_found; not_both = λ x r p q. one.not_both x q.fault p q.first }

pub one_deployment_judgement : (file : List ℕ) (contents : Contents) (sources : List Source) → IsOneJudgement (deployment_judgement file contents sources)
one_deployment_judgement file contents sources =
    let files = rule_files sources contents.cubes in
    one_stage_judgement file (deployment contents files) (single-deployment contents files)

pub one_binding_judgement : (file : List ℕ) (contents : Contents) (sources : List Source) → IsOneJudgement (binding_judgement file contents sources)
one_binding_judgement file contents sources =
    let files = rule_files sources contents.cubes in
    one_stage_judgement file (binding contents files) (single-binding contents files)
