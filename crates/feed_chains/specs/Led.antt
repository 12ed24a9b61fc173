-- How many cells chains of feeds lead to.
use Rattle.std.specs.Prelude.{ℕ, suc, ◌≤◌, List, length, Contains}
use Rattle.rule_laws.specs.RuleSystem.{RuleSystem}
use Rattle.rule_laws.specs.Feeding.{Leads}

-- chains of one feed or more lead from a cell to so many cells at most
abbrev pub LeadsToAtMost : RuleSystem → ℕ → ℕ → Type 0
LeadsToAtMost w cell count =
    (cells : List ℕ) × (length cells ≤ count) × ((n c : ℕ) → Leads w (suc n) cell c → Contains cells c)
