use Rattle.std.proofs.Common.{refl, subst, sym, arith}
use Rattle.cube_lex.specs.Written.{IsQuotable}
use Rattle.dim_text.proofs.printing.write_attribute.Goals as goal

pub write_line-requires-clause-written : goal.write_line-requires-clause-written
write_line-requires-clause-written c = (((refl, refl), omega arith), (c.shown_of.ensures.quotable, (subst IsQuotable (sym c.shown.ensures.value) c.requires.name, (refl, (subst IsQuotable (sym c.as_slice.ensures) c.requires.text, (refl, tt))))))

pub returns : goal.returns
returns c = rw (c.shown_of.ensures.shown, c.shown.ensures.value, c.as_slice.ensures) at c.write_line.ensures.ok
