use Rattle.std.proofs.Common.{sym, subst}
use Rattle.order_laws.specs.Earlier.{number_by_kinds}
use Rattle.ref_order.specs.declared.reads.Read.{Read}
use Rattle.ref_order.specs.Kinds.{AreNumbers}
use Rattle.ref_order.specs.Known.{kinds_asked}
use Rattle.ref_order.specs.Reads.{precedent_of}
use Rattle.ref_order.proofs.excess.numbers_from.Goals as goal

pub returns-in-Cell-clause-numbers : goal.returns-in-Cell-clause-numbers
returns-in-Cell-clause-numbers c =
    subst (λ (r : Read). AreNumbers c.named_numbers.result (number_by_kinds c.args.model.now c.args.cube (kinds_asked c.args.asked) c.args.asked.place (precedent_of r) c.args.asked.dim c.args.element)) (sym c.in-Cell.is) c.named_numbers.ensures.numbers

pub returns-in-Children-clause-numbers : goal.returns-in-Children-clause-numbers
returns-in-Children-clause-numbers c =
    subst (λ (r : Read). AreNumbers c.child_numbers.result (number_by_kinds c.args.model.now c.args.cube (kinds_asked c.args.asked) c.args.asked.place (precedent_of r) c.args.asked.dim c.args.element)) (sym c.in-Children.is) c.child_numbers.ensures.numbers
