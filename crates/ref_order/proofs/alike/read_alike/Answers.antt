use Rattle.std.proofs.Common.{◌∙◌, sym, ap}
use Rattle.order_laws.specs.Earlier.{number_by_kinds}
use Rattle.ref_order.specs.declared.reads.Read.{Read}
use Rattle.ref_order.specs.Reads.{precedent_of}
use Rattle.ref_order.proofs.Likeness.{numbers-alike}
use Rattle.ref_order.proofs.alike.read_alike.Goals as goal

pub returns-then-one-other : goal.returns-then-one-other
returns-then-one-other c =
    λ on kinds place e leaf.
    let read = λ (r : Read). number_by_kinds c.args.model.now c.args.cube kinds place (precedent_of r) c.args.dim e leaf in
    ap read c.in-Cell-Cell.is-0
    ∙ numbers-alike c.args.dim c.args.model.now c.args.cube kinds place e leaf c.in-Cell-Cell.one.now c.in-Cell-Cell.other.now c.if-one-other.true (c.name_alike.ensures on)
    ∙ sym (ap read c.in-Cell-Cell.is-1)
