-- The ranks that are given, before those of the other elements are found.
use Rattle.std.specs.Prelude.{ℕ, ◌≤◌, Option, IfSome, List, All}
use Rattle.rule_model.specs.Conditions.{greatest_rank}

-- none of them is too great for an order
abbrev pub AreWithin : List (Option ℕ) → Type 0
AreWithin given = All (λ rank. IfSome rank (λ r. r ≤ greatest_rank)) given
