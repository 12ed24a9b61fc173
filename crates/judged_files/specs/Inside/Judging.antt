-- What the functions promise one another that judge files.
use Rattle.std.specs.Prelude.{◌≡◌, List, Option, Some, ◌⊎◌}
use Rattle.user_text.specs.declared.command.UserCommand.{UserCommand}
use Rattle.file_passes.specs.declared.halt.Halt.{Halt}
use Rattle.file_passes.specs.declared.halt.Halt.TheVariants as halts
use Rattle.file_passes.specs.declared.refusal.Refusal.{Refusal}
use Rattle.file_passes.specs.Pass.{Source, Judgement}
use Rattle.judged_files.specs.Users.{AreUserTexts, IsFirstFault}

-- the run goes no further for this refusal, or for out of memory
abbrev pub IsHaltFor : Option Refusal → Halt → Type 0
IsHaltFor found halt =
    (halt ≡ halts.Memory) ⊎ ((refusal : Refusal) × (found ≡ Some refusal) × (halt ≡ halts.Refused refusal))

-- the texts of all users
abbrev pub texts_judgement : List Source → Judgement (List (List UserCommand))
texts_judgement sources = record { stands_for = AreUserTexts 0 sources; refused_for = IsFirstFault 0 sources }
