-- What the bytes of all user files are judged to be, in the order of the words.
use Rattle.std.specs.Prelude.{◌≡◌, ℕ, ◌+◌, Bool, false, not, List, [], ◌∷◌, length, Option, Some, None}
use Rattle.std.specs.Prelude.{option_map, find, Ok, Err, ◌⊎◌, All}
use Rattle.std.specs.Option.{option_or}
use Rattle.dim_name.specs.Name.{has_name}
use Rattle.user_text.specs.Answers.{Answers}
use Rattle.user_text.specs.declared.command.UserBody.{UserBody}
use Rattle.user_text.specs.declared.command.UserBody.TheVariants as bodies
use Rattle.user_text.specs.declared.command.UserCommand.{UserCommand}
use Rattle.user_text.specs.declared.fault.UserFault.{UserFault}
use Rattle.file_passes.specs.declared.refusal.Cause.TheVariants.{UnknownScript}
use Rattle.file_passes.specs.declared.refusal.Refusal.{Refusal}
use Rattle.file_passes.specs.Pass.{Source, Judgement}
use Rattle.judged_files.specs.Refusals.{refused_at, user_refusal}

-- behind so many commands of the users before, the bytes are a user's text with these commands
abbrev pub IsUserText : ℕ → List ℕ → List UserCommand → Type 0
IsUserText before bytes commands = Answers {X = List UserCommand} (λ x. x) bytes before (Ok commands)

-- each of the files is a user's text with these commands, behind those of the users before
abbrev pub AreUserTexts : ℕ → List Source → List (List UserCommand) → Type 0
AreUserTexts before [] [] = Unit {0}
AreUserTexts before [] (commands ∷ rest) = ⊥
AreUserTexts before (source ∷ more) [] = ⊥
AreUserTexts before (source ∷ more) (commands ∷ rest) =
    IsUserText before source.1 commands × AreUserTexts (before + length commands) more rest

-- behind so many commands, the file is no user's text, and this is the first fault
pub record IsUserFault (before : ℕ) (source : Source) (refusal : Refusal) : Type 0 where
  pub fault : UserFault
  pub first : Answers {X = List UserCommand} (λ x. x) source.1 before (Err fault)
  pub is : user_refusal source.0 fault ≡ Some refusal

-- this is the first fault of the first file that is no user's text
abbrev pub IsFirstFault : ℕ → List Source → Refusal → Type 0
IsFirstFault before [] refusal = ⊥
IsFirstFault before (source ∷ more) refusal =
    IsUserFault before source refusal
    ⊎ ((commands : List UserCommand) × IsUserText before source.1 commands
    × IsFirstFault (before + length commands) more refusal)

-- ---- loads of scripts that aren't in the model

-- a load of a script that has none of these names
abbrev pub is_unknown_load : List (List ℕ) → UserBody → Bool
is_unknown_load scripts (bodies.Put cell number) = false
is_unknown_load scripts (bodies.Get cell) = false
is_unknown_load scripts (bodies.Load load) = not (has_name scripts load.script)
is_unknown_load scripts (bodies.View view) = false
is_unknown_load scripts (bodies.Spread cell amount how) = false
is_unknown_load scripts (bodies.Trace cell) = false
is_unknown_load scripts bodies.Sandbox = false
is_unknown_load scripts bodies.Publish = false
is_unknown_load scripts bodies.Discard = false

abbrev pub is_unknown : List (List ℕ) → UserCommand → Bool
is_unknown scripts command = is_unknown_load scripts command.body

-- no user has such a load
abbrev pub AreKnown : List (List ℕ) → List (List UserCommand) → Type 0
AreKnown scripts users = All (All (λ command. is_unknown scripts command ≡ false)) users

-- the first such load of all users, in the order of the words
abbrev pub unknown_script : List (List ℕ) → List Source → List (List UserCommand) → Option Refusal
unknown_script scripts [] users = None
unknown_script scripts (source ∷ more) [] = None
unknown_script scripts (source ∷ more) (commands ∷ rest) =
    option_or
    (option_map (λ command. refused_at source.0 command.at UnknownScript) (find (is_unknown scripts) commands))
    (unknown_script scripts more rest)

-- ---- all user files

-- the files are users' texts with these commands, and each load is one of a script of these names
pub record AreUsers (scripts : List (List ℕ)) (sources : List Source) (users : List (List UserCommand)) : Type 0 where
  pub texts : AreUserTexts 0 sources users
  pub known : unknown_script scripts sources users ≡ None

-- the files are users' texts, and this load is the first of a script that isn't there
pub record IsUnknownScript (scripts : List (List ℕ)) (sources : List Source) (refusal : Refusal) : Type 0 where
  pub users : List (List UserCommand)
  pub texts : AreUserTexts 0 sources users
  pub first : unknown_script scripts sources users ≡ Some refusal

abbrev pub users_judgement : List (List ℕ) → List Source → Judgement (List (List UserCommand))
users_judgement scripts sources = record {
  stands_for = AreUsers scripts sources;
  refused_for = λ refusal. IsFirstFault 0 sources refusal ⊎ IsUnknownScript scripts sources refusal;
}
