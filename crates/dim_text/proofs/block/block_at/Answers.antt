use Rattle.dim_text.proofs.BlockParts.{block_parts}
use Rattle.dim_text.proofs.Quotable.{head_told}
use Rattle.dim_text.proofs.block.block_at.Goals as goal

pub returns : goal.returns
returns c = block_parts c.body_at.result c.in_ok-head.head c.in_ok-head.name c.head_at.new.cursor.state
    c.args.cursor.now.tokens c.head_at.new.cursor.tokens c.body_at.new.cursor.tokens c.in_ok-head.ensures c.body_at.ensures.read

pub body_at-requires-clause-tokens : goal.body_at-requires-clause-tokens
body_at-requires-clause-tokens c = (head_told c.in_ok-head.head c.in_ok-head.name c.head_at.new.cursor.state c.args.cursor.now.tokens c.head_at.new.cursor.tokens c.requires c.in_ok-head.ensures).1

pub body_at-requires-clause-name : goal.body_at-requires-clause-name
body_at-requires-clause-name c = (head_told c.in_ok-head.head c.in_ok-head.name c.head_at.new.cursor.state c.args.cursor.now.tokens c.head_at.new.cursor.tokens c.requires c.in_ok-head.ensures).0
