use Rattle.std.proofs.Common.{◌≡◌, length}
use Rattle.rule_tree.specs.Counting.{start}
use Rattle.explanation.specs.Statements.{counted_tokens}
use Rattle.explanation.proofs.statements.tokens_from.Given as goal

abbrev pub invariant-token : goal.invariant-token
invariant-token l = counted_tokens l.place l.counted l.left ≡ counted_tokens l.place start l.fn.tokens

abbrev pub decreases-token : goal.decreases-token
decreases-token l = length l.left
