-- Which cells may feed others.
use Rattle.std.specs.Prelude.{◌≡◌, ℕ, true, Any}
use Rattle.rule_laws.specs.RuleSystem.{RuleSystem, IsLeafCell}

-- a leaf cell in the area of a feeder
abbrev pub IsSource : RuleSystem → ℕ → Type 0
IsSource w x = IsLeafCell w x × Any (λ feed. feed.source x ≡ true) w.feeds
