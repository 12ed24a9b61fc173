use Rattle.cube_lex.proofs.WrittenTexts.{written-reads}
use Rattle.cube_lex.proofs.written.what_is_written_is_read.Goals as goal

pub returns : goal.returns
returns c tokens text lexed fault written small is = written-reads tokens text written small lexed fault is
