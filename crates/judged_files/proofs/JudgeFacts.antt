-- What the judging functions answer is what files are judged to be.
use Rattle.std.proofs.Common.{◌≡◌, ℕ, List, Option, Some, None, option_map, Ok, Err, inl, inr, subst}
use Rattle.model_text.specs.Answers.{IsModelText, IsFault}
use Rattle.model_text.specs.Contents.{Contents}
use Rattle.model_text.specs.declared.fault.ModelTextFault.{ModelTextFault}
use Rattle.model_deploy.specs.Deployment.{deployment}
use Rattle.model_bind.specs.Foundation.{memory}
use Rattle.model_bind.specs.Stages.{Stage, Comes}
use Rattle.model_bind.specs.Binding.{binding}
use Rattle.model_bind.specs.declared.bound.Bound.{Bound}
use Rattle.model_bind.specs.declared.fault.DeployFault.{DeployFault}
use Rattle.model_bind.specs.Files.{RuleFile}
use Rattle.rule_model.specs.BoundModel.{BoundModel}
use Rattle.file_passes.specs.declared.halt.Halt.{Halt}
use Rattle.file_passes.specs.declared.refusal.Cause.{Cause}
use Rattle.file_passes.specs.declared.refusal.Refusal.{Refusal}
use Rattle.file_passes.specs.Pass.{Source, Judgement}
use Rattle.judged_files.specs.Refusals.{refused_at, model_cause, deploy_refusal}
use Rattle.judged_files.specs.Models.{text_judgement}
use Rattle.judged_files.specs.Rules.{rule_files, stage_judgement, deployment_judgement, binding_judgement}
use Rattle.file_passes.specs.Halting.{Judges}
use Rattle.judged_files.specs.Inside.Judging.{IsHaltFor}

-- a run goes no further for a refusal of what was judged
pub judges-halt : {A : Type 0} (J : Judgement A) (found : Option Refusal) (h : Halt)
    → IsHaltFor found h → ((refusal : Refusal) → found ≡ Some refusal → J.refused_for refusal) → Judges J (Err h)
judges-halt J found h (inl is) refused = rw is tt
judges-halt J found h (inr (refusal, some, is)) refused = rw is (refused refusal some)

-- the model file

module _ (source : Source) (file bytes : List ℕ) (named : file ≡ source.0) (read : bytes ≡ source.1) where
  pub judges-fault : (fault : ModelTextFault) (found : Option Cause) (h : Halt)
      → IsFault bytes fault.at fault.cause → found ≡ model_cause fault.cause → IsHaltFor (option_map (refused_at file fault.at) found) h
      → Judges (text_judgement source) (Err h)
  judges-fault fault found h first is halted =
      let here : IsFault source.1 fault.at fault.cause = rw (← read) first in
      let for : IsHaltFor (option_map (refused_at source.0 fault.at) (model_cause fault.cause)) h = rw (← named, ← is) halted in
      judges-halt (text_judgement source) (option_map (refused_at source.0 fault.at) (model_cause fault.cause)) h for
      (λ refusal some. record { fault = fault; first = here; is = some })

  pub judges-text : (contents : Contents) → IsModelText bytes contents → IsModelText source.1 contents
  judges-text contents text = rw (← read) text

-- the rule files

module _ {A : Type 0} (file : List ℕ) (stage : Stage A) where
  no_cause : (fault : DeployFault) (refusal : Refusal) → fault ≡ memory → deploy_refusal file fault ≡ Some refusal → {A : Type 0} → A
  no_cause fault refusal is some = let clash : None ≡ Some refusal = rw is at some in cc

  refused-in : (fault : DeployFault) (refusal : Refusal) → Comes stage (Err fault) → deploy_refusal file fault ≡ Some refusal
      → (stage_judgement file stage).refused_for refusal
  refused-in fault refusal (inl is) some = no_cause fault refusal is some
  refused-in fault refusal (inr refuses) some = record { fault = fault; first = refuses; is = some }

  judges-refused : (fault : DeployFault) (h : Halt) → Comes stage (Err fault) → IsHaltFor (deploy_refusal file fault) h → Judges (stage_judgement file stage) (Err h)
  judges-refused fault h came halted =
      judges-halt (stage_judgement file stage) (deploy_refusal file fault) h halted (λ refusal some. refused-in fault refusal came some)

module _ (file : List ℕ) (contents : Contents) (sources : List Source) (files : List (Option RuleFile)) (are : files ≡ rule_files sources contents.cubes) where
  pub judges-undeployed : (fault : DeployFault) (h : Halt)
      → Comes (deployment contents files) (Err fault) → IsHaltFor (deploy_refusal file fault) h → Judges (deployment_judgement file contents sources) (Err h)
  judges-undeployed fault h came halted =
      subst (λ f. Judges (stage_judgement file (deployment contents f)) (Err h)) are (judges-refused file (deployment contents files) fault h came halted)

  pub judges-deployed : (model : BoundModel) → Comes (deployment contents files) (Ok model) → (deployment contents (rule_files sources contents.cubes)).finds model
  judges-deployed model came = rw (← are) came

  pub judges-unbound : (fault : DeployFault) (h : Halt)
      → Comes (binding contents files) (Err fault) → IsHaltFor (deploy_refusal file fault) h → Judges (binding_judgement file contents sources) (Err h)
  judges-unbound fault h came halted =
      subst (λ f. Judges (stage_judgement file (binding contents f)) (Err h)) are (judges-refused file (binding contents files) fault h came halted)

  pub judges-bound : (bound : Bound) → Comes (binding contents files) (Ok bound) → (binding contents (rule_files sources contents.cubes)).finds bound
  judges-bound bound came = rw (← are) came
