-- What the bytes of a model file are judged to be.
use Rattle.std.specs.Prelude.{◌≡◌, Some}
use Rattle.model_text.specs.Answers.{IsModelText, IsFault}
use Rattle.model_text.specs.Contents.{Contents}
use Rattle.model_text.specs.declared.fault.ModelTextFault.{ModelTextFault}
use Rattle.file_passes.specs.declared.refusal.Refusal.{Refusal}
use Rattle.file_passes.specs.Pass.{Source, Judgement}
use Rattle.judged_files.specs.Refusals.{text_refusal}

-- the bytes are no model text, and this is the first fault
pub record IsTextFault (source : Source) (refusal : Refusal) : Type 0 where
  pub fault : ModelTextFault
  pub first : IsFault source.1 fault.at fault.cause
  pub is : text_refusal source.0 fault ≡ Some refusal

abbrev pub text_judgement : Source → Judgement Contents
text_judgement source = record { stands_for = IsModelText source.1; refused_for = IsTextFault source }
