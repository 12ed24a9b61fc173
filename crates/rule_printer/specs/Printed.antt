-- What is printed of rules.
use Rattle.std.specs.Prelude.{◌≡◌, ℕ, ◌≤◌, List, ◌++◌}
use Rattle.cube_lex.specs.Reading.{most_text_bytes}
use Rattle.cube_lex.specs.Written.{Writes, most_size}
use Rattle.grammar.specs.Whole.{IsWholeText}
use Rattle.rule_tree.specs.Counting.{counting, start}
use Rattle.rule_tree.specs.RuleText.{rules}
use Rattle.rule_printer.specs.Spelled.{rules_spelled}
use Rattle.rule_tree.specs.declared.counted.Counted.{Counted}
use Rattle.rule_tree.specs.declared.rule.RuleText.{RuleText}

-- the bytes are a rule text of these rules within the limits
abbrev pub IsTextOf : RuleText → List ℕ → Type 0
IsTextOf text bytes = (c : Counted) × IsWholeText rules counting start bytes text c

-- some bytes are, as those are that reading gave
abbrev pub IsRuleText : RuleText → Type 0
IsRuleText text = (bytes : List ℕ) × (c : Counted) × IsWholeText rules counting start bytes text c

-- new is old with the rules written at its end, token by token, in no more bytes than these with a space and a line end
-- behind each; where those are not too many for a text, the bytes are a rule text of the rules, within the limits
pub record IsPrinted (text : RuleText) (old new : List ℕ) : Type 0 where
  pub writes : Writes old new (rules_spelled text)
  pub reads : most_size (rules_spelled text) ≤ most_text_bytes
      → (bytes : List ℕ) → new ≡ old ++ bytes → IsTextOf text bytes
