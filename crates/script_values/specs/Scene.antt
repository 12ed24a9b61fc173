-- What an expression sees of its load.
use Rattle.std.specs.Prelude.{ℕ, List, Option}
use Rattle.script_values.specs.declared.kept.Kept.{Kept}

-- the variables by their numbers, in the Data section the columns of the record, and the byte between units and
-- decimals of numbers in columns
pub record Scene : Type 0 where
  pub variables : List (Option Kept)
  pub columns : Option (List (List ℕ))
  pub decimal : ℕ
