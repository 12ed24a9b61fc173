use Rattle.trace_text.proofs.Ends.{replies_end}
use Rattle.trace_text.proofs.laws_of_text.traces_end_alike.Goals as goal

pub returns : goal.returns
returns c = λ model stored stored_too files cell rules is_cell. replies_end model files cell rules is_cell stored stored_too
