use Rattle.cube_lex.proofs.WrittenTexts.{written-reading}
use Rattle.cube_lex.proofs.written.what_is_written_has_a_reading.Goals as goal

pub returns : goal.returns
returns c tokens text written small = written-reading tokens text written small
