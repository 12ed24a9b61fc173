use Rattle.std.proofs.Common.{subst, sym, ◌∙◌}
use Rattle.dim_text.proofs.PrintedParts.{name_quotable_at}
use Rattle.cube_lex.specs.Written.{IsQuotable}
use Rattle.dim_text.proofs.printing.shown_of.Goals as goal

pub returns-clause-quotable : goal.returns-clause-quotable
returns-clause-quotable c = subst IsQuotable (sym (c.shown.ensures.value ∙ c.name_of.ensures)) (name_quotable_at c.args.dimension.now c.requires.writable c.args.element c.requires.within)
