-- What a model and the files of its cubes' rules are judged to be.
use Rattle.std.specs.Prelude.{◌≡◌, ℕ, List, [], map, filter_map, Option, Some, option_map}
use Rattle.std.specs.Prelude.{option_and_then, unwrap_or}
use Rattle.model_text.specs.Contents.{Contents}
use Rattle.model_text.specs.declared.parts.CubeText.{CubeText}
use Rattle.model_deploy.specs.Deployment.{deployment}
use Rattle.model_bind.specs.Binding.{binding}
use Rattle.model_bind.specs.Stages.{Stage}
use Rattle.model_bind.specs.declared.bound.Bound.{Bound}
use Rattle.model_bind.specs.declared.fault.DeployFault.{DeployFault}
use Rattle.model_bind.specs.Files.{RuleFile}
use Rattle.rule_model.specs.BoundModel.{BoundModel}
use Rattle.file_passes.specs.declared.refusal.Refusal.{Refusal}
use Rattle.file_passes.specs.Pass.{Source, source_of, Judgement}
use Rattle.judged_files.specs.Refusals.{deploy_refusal}

-- the name of the file of a cube's rules
abbrev pub rule_name : CubeText → Option (List ℕ)
rule_name cube = option_map (λ rules. rules.1) cube.rules

-- the names of the rule files, in cube order
abbrev pub rule_names : List CubeText → List (List ℕ)
rule_names cubes = filter_map rule_name cubes

-- the name of the rule file of each cube, empty where a cube has none
abbrev pub all_rule_names : List CubeText → List (List ℕ)
all_rule_names cubes = map (λ cube. unwrap_or (rule_name cube) []) cubes

abbrev pub rule_file_of : Source → RuleFile
rule_file_of source = record { name = source.0; bytes = source.1 }

-- the rule file of a cube, where it has one
abbrev pub rule_file : List Source → CubeText → Option RuleFile
rule_file sources cube = option_map rule_file_of (option_and_then (source_of sources) (rule_name cube))

-- the rule file of each cube
abbrev pub rule_files : List Source → List CubeText → List (Option RuleFile)
rule_files sources cubes = map (rule_file sources) cubes

-- a stage of deployment refuses the model file, or one of its rule files, for this
pub record IsRefusedIn {A : Type 0} (stage : Stage A) (file : List ℕ) (refusal : Refusal) : Type 0 where
  pub fault : DeployFault
  pub first : stage.refuses fault
  pub is : deploy_refusal file fault ≡ Some refusal

-- what a stage finds in the model text of this file and in its rule files
abbrev pub stage_judgement : {A : Type 0} → List ℕ → Stage A → Judgement A
stage_judgement file stage = record { stands_for = stage.finds; refused_for = IsRefusedIn stage file }

-- the model text of this file, with the files of its cubes' rules, is deployed
abbrev pub deployment_judgement : List ℕ → Contents → List Source → Judgement BoundModel
deployment_judgement file contents sources =
    stage_judgement file (deployment contents (rule_files sources contents.cubes))

-- or is bound
abbrev pub binding_judgement : List ℕ → Contents → List Source → Judgement Bound
binding_judgement file contents sources =
    stage_judgement file (binding contents (rule_files sources contents.cubes))
