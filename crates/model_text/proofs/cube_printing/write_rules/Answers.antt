use Rattle.model_text.proofs.cube_printing.write_rules.Goals as goal

pub returns-in-Some : goal.returns-in-Some
returns-in-Some c = rw c.in-Some.is (rw (c.as_slice.ensures, c.in-Some.file-is) at c.write_line.ensures.ok)
