-- What a load keeps while it runs.
use Rattle.std.specs.Prelude.{◌≡◌, ◌<◌, ◌==◌, ℕ, Bool, true, false, Option}
use Rattle.std.specs.Prelude.{List, [], ◌∷◌, length, All, slice_set, slice_index_or}
use Rattle.std.specs.List.{list_any}
use Rattle.script_values.specs.declared.kept.Kept.{Kept}
use Rattle.script_run.specs.Setting.{Progress}

-- how far it has come, and what the variables held at the mark
pub record Running : Type 0 where
  pub progress : Progress
  pub held : List (Option Kept)

-- the variables before these changes, of which each says what a variable held before it
abbrev pub before_changes : List (ℕ × Option Kept) → List (Option Kept) → List (Option Kept)
before_changes [] variables = variables
before_changes (change ∷ changes) variables = slice_set (before_changes changes variables) change.0 change.1

-- whether a variable is among the changes
abbrev pub is_changed : List (ℕ × Option Kept) → ℕ → Bool
is_changed changes place = list_any (λ change. change.0 == place) changes

-- each change is of a variable that has a flag, and where that is set the variable is among the changes
pub record AreFlagged (changes : List (ℕ × Option Kept)) (flags : List Bool) : Type 0 where
  pub within : All (λ change. change.0 < length flags) changes
  pub listed : (place : ℕ) → slice_index_or flags place false ≡ true → is_changed changes place ≡ true
