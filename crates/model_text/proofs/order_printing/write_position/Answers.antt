use Rattle.model_text.proofs.order_printing.write_position.Goals as goal

pub returns-in-Constant : goal.returns-in-Constant
returns-in-Constant c = rw c.in-Constant.is (rw c.from.ensures at c.write_pieces.ensures.ok)

pub returns-in-Index : goal.returns-in-Index
returns-in-Index c = rw c.in-Index.is (rw c.shown.ensures.value at c.write_pieces-in-Index.ensures.ok)
