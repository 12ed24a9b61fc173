use Rattle.std.proofs.Common.{◌∙◌, true, false, sym}
use Rattle.bind_order.proofs.ListedFacts.{entry_is}
use Rattle.bind_order.proofs.listed.entry_element.Goals as goal

pub returns-then-may_list-clause-element : goal.returns-then-may_list-clause-element
returns-then-may_list-clause-element c before is =
    entry_is c.args.dimension.now c.args.totals before c.args.name.now c.args.given.now c.in-Some.element true (sym c.index_of.ensures ∙ c.in-Some.is) is (sym c.may_list.ensures ∙ c.if-may_list.true)

pub returns-else-may_list-clause-element : goal.returns-else-may_list-clause-element
returns-else-may_list-clause-element c before is =
    entry_is c.args.dimension.now c.args.totals before c.args.name.now c.args.given.now c.in-Some.element false (sym c.index_of.ensures ∙ c.in-Some.is) is (sym c.may_list.ensures ∙ c.if-may_list.false)
