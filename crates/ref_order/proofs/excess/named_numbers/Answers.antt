use Rattle.std.proofs.Common.{arith, ◌+◌, ◌*◌, ◌-◌, length}
use Rattle.ref_order.specs.Known.{kinds_asked}
use Rattle.ref_order.proofs.Args.{args-few, size-weaker}
use Rattle.ref_order.proofs.NumberFacts.{named-is}
use Rattle.ref_order.proofs.excess.named_numbers.Goals as goal

pub moved_from-moved-requires-clause-few : goal.moved_from-moved-requires-clause-few
moved_from-moved-requires-clause-few c = args-few c.args.model.now.space c.args.cube c.args.reference.now c.space-space.ensures.valid c.requires.read

pub plus-requires-clause-left : goal.plus-requires-clause-left
plus-requires-clause-left c =
    let few = args-few c.args.model.now.space c.args.cube c.args.reference.now c.space-space.ensures.valid c.requires.read in
    size-weaker c.moved_from-moved.result.sum ((length c.args.reference.now.args - 0) * 4294967296) 1152921504606846976 c.moved_from-moved.ensures.size (omega (arith, few))

pub returns-clause-numbers : goal.returns-clause-numbers
returns-clause-numbers c =
    named-is c.args.model.now c.args.cube c.args.asked.place c.args.asked.dim c.args.element (kinds_asked c.args.asked) c.args.reference.now c.of_kind.result c.moved_from-moved.result.leaves c.moved_from-moved.result.sum c.plus.result c.minus.result c.worth-worth.result
    c.of_kind.ensures.numbers c.moved_from-moved.ensures.leaves c.moved_from-moved.ensures.sum c.plus.ensures.value c.minus.ensures.value c.worth-worth.ensures

pub returns-clause-size : goal.returns-clause-size
returns-clause-size c =
    let few = args-few c.args.model.now.space c.args.cube c.args.reference.now c.space-space.ensures.valid c.requires.read in
    c.of_kind.ensures.size 1099511627776 (size-weaker c.plus.result ((length c.args.reference.now.args - 0) * 4294967296 + 4294967296) 1099511627776
    (c.plus.ensures.size ((length c.args.reference.now.args - 0) * 4294967296) 4294967296 c.moved_from-moved.ensures.size c.minus.ensures.size) (omega (arith, few)))
