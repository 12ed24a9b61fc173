use Rattle.model_text.proofs.cube_printing.write_number.Goals as goal

pub returns : goal.returns
returns c = rw c.dimension_name-name.ensures.shown at c.write_pieces.ensures.ok
