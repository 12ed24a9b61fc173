-- The first reference of a model that isn't earlier. Which are is said cell by cell.
use Rattle.std.specs.Prelude.{ℕ, ◌⊎◌, Bool, true, false, IfSome}
use Rattle.rule_laws.specs.Meaning.{Precedent}
use Rattle.rule_laws.specs.OrderByPlace.{IsDecidedByPosition, IsDecidedByLevel}
use Rattle.rule_model.specs.declared.rules.Statement.{Statement}
use Rattle.rule_model.specs.BoundModel.{BoundModel}
use Rattle.rule_model.specs.System.{system_of, positions_of, rule_of}
use Rattle.ref_order.specs.Counted.{Counted}
use Rattle.ref_order.specs.FirstReference.{HoldsOfEach, IsFirstOf, IsFirstReference}

-- it stands before each cell of this kind of the statement's area, where it reads a cell from there
abbrev pub IsEarlierFor : BoundModel → ℕ → Statement → Bool → Precedent → Type 0
IsEarlierFor model cube s kind p =
    IsDecidedByPosition (system_of model) (positions_of model) (rule_of model.space cube s) kind p
    ⊎ IsDecidedByLevel (system_of model) (positions_of model) (rule_of model.space cube s) kind p

abbrev pub IsEarlier : BoundModel → ℕ → Statement → Counted → Type 0
IsEarlier model cube s reference =
    IfSome reference.leaf (IsEarlierFor model cube s true) × IfSome reference.cons (IsEarlierFor model cube s false)

-- all references of the statement are earlier
abbrev pub AreEarlier : BoundModel → ℕ → Statement → Type 0
AreEarlier model cube s = HoldsOfEach (IsEarlier model cube s) s

-- the reference of this number, from 1, is the first of the statement that isn't, and the first of the model
abbrev pub IsFirstLateOf : BoundModel → ℕ → Statement → ℕ → Type 0
IsFirstLateOf model cube s reference = IsFirstOf (IsEarlier model cube s) s reference

abbrev pub IsFirstLate : BoundModel → ℕ → ℕ → ℕ → Type 0
IsFirstLate model cube statement reference = IsFirstReference (IsEarlier model) model cube statement reference
