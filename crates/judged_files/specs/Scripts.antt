-- What the bytes of all script files are judged to be, in the order of the model.
use Rattle.std.specs.Prelude.{◌≡◌, ℕ, List, [], ◌∷◌, map, Some, Ok, Err, ◌⊎◌}
use Rattle.model_text.specs.declared.parts.ScriptText.{ScriptText}
use Rattle.script_reader.specs.Answers.{Answers}
use Rattle.script_reader.specs.declared.fault.ScriptFault.{ScriptFault}
use Rattle.script_bind.specs.Binding.{bound_of}
use Rattle.script_bound.specs.declared.script.BoundScript.{BoundScript}
use Rattle.script_tree.specs.declared.script.Script.{Script}
use Rattle.file_passes.specs.declared.refusal.Refusal.{Refusal}
use Rattle.file_passes.specs.Pass.{Source, Judgement}
use Rattle.judged_files.specs.Refusals.{script_refusal}

-- the names of the script files, in the order of the model
abbrev pub script_files : List ScriptText → List (List ℕ)
script_files scripts = map (λ script. script.file) scripts

-- the file is a text of a script, and this is the script as it is run
pub record IsScript (source : Source) (script : BoundScript) : Type 0 where
  pub tree : Script
  pub text : Answers source.1 (Ok tree)
  pub bound : script ≡ bound_of tree

-- each of the files is a text of this script
abbrev pub AreScripts : List Source → List BoundScript → Type 0
AreScripts [] [] = Unit {0}
AreScripts [] (script ∷ rest) = ⊥
AreScripts (source ∷ more) [] = ⊥
AreScripts (source ∷ more) (script ∷ rest) = IsScript source script × AreScripts more rest

-- the file is no script, and this is the first fault
pub record IsScriptFault (source : Source) (refusal : Refusal) : Type 0 where
  pub fault : ScriptFault
  pub first : Answers source.1 (Err fault)
  pub is : script_refusal source.0 fault ≡ Some refusal

-- this is the first fault of the first file that is no script
abbrev pub IsFirstScriptFault : List Source → Refusal → Type 0
IsFirstScriptFault [] refusal = ⊥
IsFirstScriptFault (source ∷ more) refusal =
    IsScriptFault source refusal
    ⊎ ((script : Script) × Answers source.1 (Ok script) × IsFirstScriptFault more refusal)

abbrev pub scripts_judgement : List Source → Judgement (List BoundScript)
scripts_judgement sources = record { stands_for = AreScripts sources; refused_for = IsFirstScriptFault sources }
