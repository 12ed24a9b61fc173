use Rattle.model_text.proofs.order_printing.write_lag.Goals as goal

pub returns-in-Some : goal.returns-in-Some
returns-in-Some c = rw c.in-Some.is (rw c.shown.ensures.value at c.write_pieces.ensures.ok)
