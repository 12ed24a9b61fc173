use Rattle.model_text.proofs.printing.write_script.Goals as goal

pub returns : goal.returns
returns c = rw (c.shown.ensures.value, c.as_slice.ensures) at c.write_line.ensures.ok
