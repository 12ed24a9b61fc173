-- What it says that a model text has one answer.
use Rattle.std.specs.Prelude.{◌≡◌, ◌≢◌, ℕ, List}
use Rattle.model_text.specs.Answers.{IsModelText, IsFault}
use Rattle.model_text.specs.Contents.{Contents}
use Rattle.model_text.specs.declared.fault.ModelTextFault.{ModelTextFault}
use Rattle.model_text.specs.declared.fault.ModelTextCause.TheVariants as causes

-- There are one content, or one first fault, and not both. Out of memory says nothing of the text.
pub record OneModelAnswer (bytes : List ℕ) : Type 0 where
  pub one_contents : (x y : Contents) → IsModelText bytes x → IsModelText bytes y → x ≡ y
  pub one_fault : (e f : ModelTextFault) → e.cause ≢ causes.Memory → f.cause ≢ causes.Memory
      → IsFault bytes e.at e.cause → IsFault bytes f.at f.cause → e ≡ f
  pub not_both : (x : Contents) (e : ModelTextFault) → e.cause ≢ causes.Memory
      → IsModelText bytes x → IsFault bytes e.at e.cause → ⊥
