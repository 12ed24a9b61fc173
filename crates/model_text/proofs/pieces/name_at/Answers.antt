use Rattle.model_text.proofs.Kept.{taken_name}
use Rattle.model_text.proofs.pieces.name_at.Goals as goal

pub returns-clause-writable : goal.returns-clause-writable
returns-clause-writable c tokens = taken_name c.args.cursor.now.tokens c.located_name.new.cursor.tokens c.in_ok-shown.shown c.args.cursor.now.state c.located_name.new.cursor.state c.in_ok-shown.ensures.read tokens
