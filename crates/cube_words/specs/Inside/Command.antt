-- The command that `clap` is given, and the test of the words that goes before it.
use Rattle.std.specs.Prelude.{◌&&◌, ◌||◌, ◌==◌, ℕ, Bool, false, true, List, [], ◌∷◌, Some, codes}
use Rattle.std.specs.List.{list_all}
use Rattle.clap.specs.Simple.{on_top}
use Rattle.clap.specs.Words.{App, Rule, new_app, new_rule, with_rule}
use Rattle.clap.specs.declared.builder.action.ArgAction.TheVariants.{SetTrue}
use Rattle.cube_words.specs.Words.{minus, most_users, names_a_file}

-- the word begins with `--` and goes on
abbrev pub goes_on : List ℕ → Bool
goes_on (a ∷ b ∷ _ ∷ _) = (a == minus) && (b == minus)
goes_on _ = false

abbrev pub is_spelled : List ℕ → Bool
is_spelled word = names_a_file word || goes_on word

-- a long flag stands first, or among at most two words; each other word names a file
abbrev pub are_spelled : List (List ℕ) → Bool
are_spelled [] = true
are_spelled (a ∷ []) = is_spelled a
are_spelled (a ∷ b ∷ []) = is_spelled a && is_spelled b
are_spelled (a ∷ b ∷ c ∷ rest) = is_spelled a && list_all names_a_file (b ∷ c ∷ rest)

abbrev pub check_rule : Rule
check_rule = record (new_rule (codes "check")) { long = Some (codes "check"); action = Some SetTrue }

abbrev pub feeders_rule : Rule
feeders_rule = record (new_rule (codes "feeders")) { long = Some (codes "feeders"); action = Some SetTrue }

abbrev pub explain_rule : Rule
explain_rule = record (new_rule (codes "explain")) { long = Some (codes "explain"); action = Some SetTrue }

abbrev pub sample_rule : Rule
sample_rule = record (new_rule (codes "sample")) { long = Some (codes "sample") }

abbrev pub model_rule : Rule
model_rule = new_rule (codes "model")

abbrev pub users_rule : Rule
users_rule = record (new_rule (codes "users")) {
  range = Some (record { start_inclusive = 1; end_inclusive = most_users });
}

-- no help, no version, and no word that is the program's name
abbrev pub plain : App
plain = on_top (λ shape. record shape { no_binary_name = true; disable_help_flag = true; disable_version_flag = true })
    (new_app (codes "cube_program"))

abbrev pub cube : App
cube =
    with_rule (with_rule (with_rule (with_rule (with_rule (with_rule plain check_rule) feeders_rule) explain_rule)
    sample_rule) model_rule) users_rule
