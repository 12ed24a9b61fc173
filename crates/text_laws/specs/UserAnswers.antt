-- What it says that a user's text has one answer.
use Rattle.std.specs.Prelude.{◌≡◌, ◌≢◌, ℕ, List, Ok, Err}
use Rattle.user_text.specs.Answers.{Answers}
use Rattle.user_text.specs.declared.command.UserCommand.{UserCommand}
use Rattle.user_text.specs.declared.fault.UserFault.{UserFault}
use Rattle.user_text.specs.declared.fault.UserFault.TheVariants as faults

-- behind so many commands of the users before, the bytes are a user's text with these commands
abbrev pub AreCommands : List ℕ → ℕ → List UserCommand → Type 0
AreCommands bytes before commands = Answers {X = List UserCommand} (λ x. x) bytes before (Ok commands)

-- behind so many commands of the users before, the bytes have this first fault
abbrev pub IsUserFault : List ℕ → ℕ → UserFault → Type 0
IsUserFault bytes before fault = Answers {X = List UserCommand} (λ x. x) bytes before (Err fault)

-- There are one list of commands, or one first fault, and not both. Out of memory says nothing of the text.
pub record OneUserAnswer (bytes : List ℕ) (before : ℕ) : Type 0 where
  pub one_list : (x y : List UserCommand) → AreCommands bytes before x → AreCommands bytes before y → x ≡ y
  pub one_fault : (e f : UserFault) → e ≢ faults.Memory → f ≢ faults.Memory
      → IsUserFault bytes before e → IsUserFault bytes before f → e ≡ f
  pub not_both : (x : List UserCommand) (e : UserFault) → e ≢ faults.Memory
      → AreCommands bytes before x → IsUserFault bytes before e → ⊥
