use Rattle.std.proofs.Common.{length}
use Rattle.explanation.proofs.StatementTable.{IsTableUpTo}
use Rattle.explanation.proofs.tables.statement_tokens.Given as goal

abbrev pub invariant-token : goal.invariant-token
invariant-token l = IsTableUpTo l.fn.tokens l.table.items l.counted l.left

abbrev pub decreases-token : goal.decreases-token
decreases-token l = length l.left
