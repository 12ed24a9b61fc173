use Rattle.trace_text.proofs.PlainLines.{reply_counted}
use Rattle.trace_text.proofs.laws_of_text.a_trace_has_as_many_lines_as_it_says.Goals as goal

pub returns : goal.returns
returns c = reply_counted
