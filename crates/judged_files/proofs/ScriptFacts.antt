-- Scripts, judged one after another.
use Rattle.std.proofs.Common.{◌≡◌, List, [], ◌∷◌, ◌++◌, append_assoc, append-nil, Ok, Err, inl, inr}
use Rattle.script_reader.specs.Answers.{Answers}
use Rattle.script_reader.specs.declared.fault.ScriptFault.{ScriptFault}
use Rattle.script_bind.specs.Binding.{bound_of}
use Rattle.script_bound.specs.declared.script.BoundScript.{BoundScript}
use Rattle.script_tree.specs.declared.script.Script.{Script}
use Rattle.file_passes.specs.declared.halt.Halt.{Halt}
use Rattle.file_passes.specs.declared.refusal.Refusal.{Refusal}
use Rattle.file_passes.specs.Pass.{Source}
use Rattle.judged_files.specs.Refusals.{script_refusal}
use Rattle.judged_files.specs.Scripts.{AreScripts, IsFirstScriptFault, scripts_judgement}
use Rattle.file_passes.specs.Halting.{Judges}
use Rattle.judged_files.specs.Inside.Judging.{IsHaltFor}
use Rattle.judged_files.proofs.JudgeFacts.{judges-halt}

-- the first files were read: whatever the rest comes to, all come to
pub record AreParsed (sources rest : List Source) (scripts : List BoundScript) : Type 0 where
  pub texts : (more : List BoundScript) → AreScripts rest more → AreScripts sources (scripts ++ more)
  pub fault : (refusal : Refusal) → IsFirstScriptFault rest refusal → IsFirstScriptFault sources refusal

pub parsed-none : (sources : List Source) → AreParsed sources sources []
parsed-none sources = record { texts = λ more are. are; fault = λ refusal is. is }

pub parsed-next : (sources rest : List Source) (source : Source) (scripts : List BoundScript) (tree : Script) (one : BoundScript)
    → AreParsed sources (source ∷ rest) scripts → Answers source.1 (Ok tree) → one ≡ bound_of tree → AreParsed sources rest (scripts ++ one ∷ [])
parsed-next sources rest source scripts tree one parsed is bound = record {
  texts = λ more are. (let all = parsed.texts (one ∷ more) (record { tree = tree; text = is; bound = bound }, are) in rw (append_assoc scripts (one ∷ []) more) all);
  fault = λ refusal found. parsed.fault refusal (inr (tree, is, found));
}

pub parsed-all : (sources : List Source) (scripts : List BoundScript) → AreParsed sources [] scripts → AreScripts sources scripts
parsed-all sources scripts parsed = rw (append-nil scripts) at (parsed.texts [] tt)

pub parsed-fault : (sources rest : List Source) (source : Source) (scripts : List BoundScript) (fault : ScriptFault) (h : Halt)
    → AreParsed sources (source ∷ rest) scripts → Answers source.1 (Err fault) → IsHaltFor (script_refusal source.0 fault) h
    → Judges (scripts_judgement sources) (Err h)
parsed-fault sources rest source scripts fault h parsed first halted =
    judges-halt (scripts_judgement sources) (script_refusal source.0 fault) h halted
    (λ refusal some. parsed.fault refusal (inl (record { fault = fault; first = first; is = some })))
