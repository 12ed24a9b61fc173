use Rattle.std.proofs.Common.{Ok}
use Rattle.dim_text.proofs.Quotable.{body_told}
use Rattle.dim_text.proofs.block.body_at.Goals as goal

pub new-requires : goal.new-requires
new-requires c = (body_told c.args.head c.args.name (Ok c.in-Ok.block) c.args.cursor.now.tokens c.statements_at.new.cursor.tokens c.requires.tokens c.requires.name c.in-Ok.ensures).0

pub returns-in-Ok-clause-shorter : goal.returns-in-Ok-clause-shorter
returns-in-Ok-clause-shorter c = (body_told c.args.head c.args.name (Ok c.in-Ok.block) c.args.cursor.now.tokens c.statements_at.new.cursor.tokens c.requires.tokens c.requires.name c.in-Ok.ensures).1

pub returns-in-Ok-clause-rest : goal.returns-in-Ok-clause-rest
returns-in-Ok-clause-rest c = (body_told c.args.head c.args.name (Ok c.in-Ok.block) c.args.cursor.now.tokens c.statements_at.new.cursor.tokens c.requires.tokens c.requires.name c.in-Ok.ensures).2
