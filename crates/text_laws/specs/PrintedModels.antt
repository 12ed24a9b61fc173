-- What it says that a printed model text reads back.
use Rattle.std.specs.Prelude.{◌≡◌, ◌≤◌, ℕ, List, ◌++◌, length, Result, Ok, Err}
use Rattle.cube_lex.specs.Reading.{most_text_bytes}
use Rattle.model_text.specs.Answers.{Answers}
use Rattle.model_text.specs.Contents.{Contents}
use Rattle.model_text.specs.Printed.{AreSameContents, IsPrinted}
use Rattle.model_text.specs.declared.fault.ModelTextFault.{ModelTextFault}
use Rattle.model_text.specs.declared.fault.ModelTextCause.TheVariants as causes

-- these contents are answered, but for places; out of memory may always come
abbrev pub IsReadAs : Contents → Result Contents ModelTextFault → Type 0
IsReadAs contents (Ok again) = AreSameContents contents again
IsReadAs contents (Err fault) = fault.cause ≡ causes.Memory

-- where the bytes that were added aren't too many for a text, whatever is answered of them is the contents
abbrev pub ReadsBack : Contents → List ℕ → List ℕ → List ℕ → Type 0
ReadsBack contents old new bytes =
    IsPrinted contents old new → new ≡ old ++ bytes → length bytes ≤ most_text_bytes
    → (answer : Result Contents ModelTextFault) → Answers bytes answer → IsReadAs contents answer
