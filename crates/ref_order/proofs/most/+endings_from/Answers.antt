use Rattle.std.proofs.Common.{arith, true, false, ◌+◌, ◌*◌, ◌-◌}
use Rattle.ref_order.specs.Areas.{numbers_reading}
use Rattle.ref_order.specs.Known.{kinds_reading}
use Rattle.ref_order.proofs.KindFacts.{ending-none, ending-more, all-weaker}
use Rattle.ref_order.proofs.most.+endings_from.Goals as goal

pub returns-then-left-eq0-clause-leaf : goal.returns-then-left-eq0-clause-leaf
returns-then-left-eq0-clause-leaf t c =
    ending-none (numbers_reading c.args.cells c.args.asked true) (kinds_reading c.args.asked true) c.args.asked.dim c.args.left c.sum_of_none.result c.if-left-eq0.true c.sum_of_none.ensures.numbers

pub returns-then-left-eq0-clause-total : goal.returns-then-left-eq0-clause-total
returns-then-left-eq0-clause-total t c =
    ending-none (numbers_reading c.args.cells c.args.asked false) (kinds_reading c.args.asked false) c.args.asked.dim c.args.left c.sum_of_none-then-left-eq0.result c.if-left-eq0.true c.sum_of_none-then-left-eq0.ensures.numbers

pub returns-then-left-eq0-clause-leaf_size : goal.returns-then-left-eq0-clause-leaf_size
returns-then-left-eq0-clause-leaf_size t c = all-weaker c.sum_of_none.result 0 (c.args.left * 1099511627776) c.sum_of_none.ensures.size (omega arith)

pub returns-then-left-eq0-clause-total_size : goal.returns-then-left-eq0-clause-total_size
returns-then-left-eq0-clause-total_size t c = all-weaker c.sum_of_none-then-left-eq0.result 0 (c.args.left * 1099511627776) c.sum_of_none-then-left-eq0.ensures.size (omega arith)

pub sums_before-requires-clause-rest : goal.sums_before-requires-clause-rest
sums_before-requires-clause-rest t c =
    all-weaker c.endings_from-rest.result.leaf ((c.args.left - 1) * 1099511627776) 1125899906842624 c.endings_from-rest.ensures.leaf_size (omega (arith, c.requires.few, c.requires.dim))

pub sums_before-requires-2-clause-rest : goal.sums_before-requires-2-clause-rest
sums_before-requires-2-clause-rest t c =
    all-weaker c.endings_from-rest.result.total ((c.args.left - 1) * 1099511627776) 1125899906842624 c.endings_from-rest.ensures.total_size (omega (arith, c.requires.few, c.requires.dim))

pub returns-clause-leaf : goal.returns-clause-leaf
returns-clause-leaf t c =
    ending-more (numbers_reading c.args.cells c.args.asked true) (kinds_reading c.args.asked true) c.args.asked.dim c.args.left c.both_readings-here.result.leaf c.endings_from-rest.result.leaf c.sums_before.result c.if-left-eq0.false
    c.both_readings-here.ensures.leaf c.endings_from-rest.ensures.leaf c.sums_before.ensures.numbers

pub returns-clause-total : goal.returns-clause-total
returns-clause-total t c =
    ending-more (numbers_reading c.args.cells c.args.asked false) (kinds_reading c.args.asked false) c.args.asked.dim c.args.left c.both_readings-here.result.total c.endings_from-rest.result.total c.sums_before-2.result c.if-left-eq0.false
    c.both_readings-here.ensures.total c.endings_from-rest.ensures.total c.sums_before-2.ensures.numbers

pub returns-clause-leaf_size : goal.returns-clause-leaf_size
returns-clause-leaf_size t c =
    all-weaker c.sums_before.result (1099511627776 + (c.args.left - 1) * 1099511627776) (c.args.left * 1099511627776) (c.sums_before.ensures.size ((c.args.left - 1) * 1099511627776) c.endings_from-rest.ensures.leaf_size) (omega (arith, c.if-left-eq0.false))

pub returns-clause-total_size : goal.returns-clause-total_size
returns-clause-total_size t c =
    all-weaker c.sums_before-2.result (1099511627776 + (c.args.left - 1) * 1099511627776) (c.args.left * 1099511627776) (c.sums_before-2.ensures.size ((c.args.left - 1) * 1099511627776) c.endings_from-rest.ensures.total_size) (omega (arith, c.if-left-eq0.false))
