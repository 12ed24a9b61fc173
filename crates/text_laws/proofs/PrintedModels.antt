-- A printed model text reads back.
use Rattle.std.proofs.Common.{◌≡◌, ◌≢◌, ◌≤◌, ℕ, List, length, Result, Ok, Err, refl, subst}
use Rattle.cube_lex.specs.Reading.{most_text_bytes}
use Rattle.cube_lex.specs.declared.position.Position.{Position}
use Rattle.model_text.specs.Answers.{IsFault, Answers}
use Rattle.model_text.specs.Contents.{Contents}
use Rattle.model_text.specs.Printed.{AreSameContents, IsTextOf}
use Rattle.model_text.specs.declared.fault.ModelTextCause.{ModelTextCause}
use Rattle.model_text.specs.declared.fault.ModelTextCause.TheVariants as causes
use Rattle.text_laws.specs.PrintedModels.{IsReadAs, ReadsBack}
use Rattle.text_laws.proofs.ModelTexts.{one_contents, no_model_fault}

refused_at : (bytes : List ℕ) (contents : Contents) (place : Position) (cause : ModelTextCause) → cause ≢ causes.Memory → IsTextOf contents bytes → length bytes ≤ most_text_bytes → IsFault bytes place cause → ⊥
refused_at bytes contents place cause some text small is =
    let (again, is_again, same) = text small in
    no_model_fault bytes again (record { at = place; cause = cause }) some is_again is

fault_as : (bytes : List ℕ) (contents : Contents) (place : Position) (cause : ModelTextCause) → IsTextOf contents bytes → length bytes ≤ most_text_bytes → IsFault bytes place cause → cause ≡ causes.Memory
fault_as bytes contents place causes.Syntax text small is = absurd (refused_at bytes contents place causes.Syntax (λ e. cc) text small is)
fault_as bytes contents place causes.WrongVersion text small is = absurd (refused_at bytes contents place causes.WrongVersion (λ e. cc) text small is)
fault_as bytes contents place causes.Duplicate text small is = absurd (refused_at bytes contents place causes.Duplicate (λ e. cc) text small is)
fault_as bytes contents place causes.UnknownName text small is = absurd (refused_at bytes contents place causes.UnknownName (λ e. cc) text small is)
fault_as bytes contents place causes.TooMany text small is = absurd (refused_at bytes contents place causes.TooMany (λ e. cc) text small is)
fault_as bytes contents place (causes.Dim f) text small is = absurd (refused_at bytes contents place (causes.Dim f) (λ e. cc) text small is)
fault_as bytes contents place causes.Memory text small is = refl

read_as : (bytes : List ℕ) (contents : Contents) → IsTextOf contents bytes → length bytes ≤ most_text_bytes → (answer : Result Contents _) → Answers bytes answer → IsReadAs contents answer
read_as bytes contents text small (Ok x) is =
    let (again, is_again, same) = text small in
    subst (AreSameContents contents) (one_contents bytes again x is_again is) same
read_as bytes contents text small (Err fault) is = fault_as bytes contents fault.at fault.cause text small is

pub reads_back : (contents : Contents) (old new bytes : List ℕ) → ReadsBack contents old new bytes
reads_back contents old new bytes printed added small answer is =
    read_as bytes contents (printed.reads bytes added) small answer is
