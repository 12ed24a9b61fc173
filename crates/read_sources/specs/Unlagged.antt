-- The first reference of a model that may read at a greater lag.
use Rattle.std.specs.Prelude.{ℕ, true, false, IfSome}
use Rattle.rule_model.specs.declared.rules.Statement.{Statement}
use Rattle.rule_model.specs.BoundModel.{BoundModel}
use Rattle.ref_order.specs.Counted.{Counted}
use Rattle.ref_order.specs.FirstReference.{IsFirstReference}
use Rattle.arrow_laws.specs.Arrows.{IsLevel}

-- what it reads never has a greater lag than its cell
abbrev pub IsLevelReference : BoundModel → ℕ → Statement → Counted → Type 0
IsLevelReference m cube s reference =
    IfSome reference.leaf (IsLevel m cube s true) × IfSome reference.cons (IsLevel m cube s false)

abbrev pub IsFirstUnlagged : BoundModel → ℕ → ℕ → ℕ → Type 0
IsFirstUnlagged m cube statement reference = IsFirstReference (IsLevelReference m) m cube statement reference
