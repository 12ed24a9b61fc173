-- A text that is accepted is within the limits.
use Rattle.std.proofs.Common.{ℕ, List, arith}
use Rattle.grammar.specs.Whole.{IsWholeText}
use Rattle.rule_tree.specs.Counting.{counting, start}
use Rattle.rule_tree.specs.RuleText.{rules}
use Rattle.rule_tree.specs.Sizes.{IsWithinLimits}
use Rattle.rule_tree.specs.declared.counted.Counted.{Counted}
use Rattle.rule_tree.specs.declared.rule.RuleText.{RuleText}
use Rattle.rule_reader.proofs.TokenCounts.{few_tokens}
use Rattle.rule_reader.proofs.TextSizes.{text_fits}
use Rattle.rule_reader.proofs.TextCounts.{text_counts}

pub within_limits : (bytes : List ℕ) (text : RuleText) (c : Counted) → IsWholeText rules counting start bytes text c → IsWithinLimits text
within_limits bytes text c is =
    let few = few_tokens bytes is.lexed is.reading in
    let sizes = text_fits is.lexed.lexemes text is.text.text in
    let counts = text_counts is.lexed.lexemes text c is.text.text is.text.passes in
    record { statements = counts.0; feeders = counts.1; nodes = omega (arith, few, sizes); targets = omega (arith, few, sizes) }
