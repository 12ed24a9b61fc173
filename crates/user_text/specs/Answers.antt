-- What is answered of a user's text: its commands, or the first fault.
use Rattle.std.specs.Prelude.{ℕ, List, Result, Ok, Err}
use Rattle.grammar.specs.Whole.{IsWholeText, IsWholeSyntax, IsWholeRefused}
use Rattle.user_text.specs.Counting.{counting, counted_from}
use Rattle.user_text.specs.UserText.{user}
use Rattle.user_text.specs.declared.command.UserCommand.{UserCommand}
use Rattle.user_text.specs.declared.fault.UserFault.{UserFault}
use Rattle.user_text.specs.declared.fault.UserFault.TheVariants as faults
use Rattle.user_text.specs.declared.counted.Counted.{Counted}

-- The bytes are a user's text with these commands, seen by view, and with the commands of the users before they aren't
-- too many; or they have this first fault. Out of memory, nothing is said.
abbrev pub Answers : {X : Type 0} → (X → List UserCommand) → List ℕ → ℕ → Result X UserFault → Type 0
Answers view bytes before (Ok commands) =
    (c : Counted) × IsWholeText user counting (counted_from before) bytes (view commands) c
Answers view bytes before (Err (faults.Syntax at)) = IsWholeSyntax user counting (counted_from before) bytes at
Answers view bytes before (Err (faults.TooMany at)) =
    IsWholeRefused user counting (counted_from before) bytes (record { at = at })
Answers view bytes before (Err faults.Memory) = Unit {0}
