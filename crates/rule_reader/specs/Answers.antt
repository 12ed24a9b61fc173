-- What is answered of a rule text: its rules, or the first fault.
use Rattle.std.specs.Prelude.{ℕ, List, Result, Ok, Err}
use Rattle.grammar.specs.Whole.{IsWholeText, IsWholeSyntax, IsWholeRefused}
use Rattle.rule_tree.specs.Counting.{counting, start}
use Rattle.rule_tree.specs.RuleText.{rules}
use Rattle.rule_tree.specs.declared.counted.Counted.{Counted}
use Rattle.rule_tree.specs.declared.excess.Excess.TheVariants as excesses
use Rattle.rule_reader.specs.declared.fault.RuleFault.{RuleFault}
use Rattle.rule_reader.specs.declared.fault.RuleFault.TheVariants as faults
use Rattle.rule_tree.specs.declared.rule.RuleText.{RuleText}

-- The bytes are a rule text of these rules within the limits; or they have this first fault. For out of memory nothing
-- is said.
abbrev pub Answers : List ℕ → Result RuleText RuleFault → Type 0
Answers bytes (Ok text) = (c : Counted) × IsWholeText rules counting start bytes text c
Answers bytes (Err (faults.Syntax at)) = IsWholeSyntax rules counting start bytes at
Answers bytes (Err (faults.TooDeep at)) = IsWholeRefused rules counting start bytes (excesses.TooDeep at)
Answers bytes (Err (faults.TooMany at)) = IsWholeRefused rules counting start bytes (excesses.TooMany at)
Answers bytes (Err faults.Memory) = Unit {0}
