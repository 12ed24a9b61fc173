use Rattle.std.proofs.Common.{sym, arith}
use Rattle.cell_spread.proofs.Walks.{range-next, range-past, range-rises}
use Rattle.cell_spread.proofs.below.EachCellCellSet.next_from.Goals as goal

pub returns-then-cell-self-clause-next : goal.returns-then-cell-self-clause-next
returns-then-cell-self-clause-next c = sym (range-next 0 c.args.self.now.size c.args.cell (omega arith) (let low = c.if-cell-self.true in omega (arith, low)))

pub returns-then-cell-self-clause-rising : goal.returns-then-cell-self-clause-rising
returns-then-cell-self-clause-rising c = range-rises c.args.self.now.size

pub returns-else-cell-self-clause-next : goal.returns-else-cell-self-clause-next
returns-else-cell-self-clause-next c = sym (range-past 0 c.args.self.now.size c.args.cell (let past = c.if-cell-self.false in omega (arith, past)))

pub returns-else-cell-self-clause-rising : goal.returns-else-cell-self-clause-rising
returns-else-cell-self-clause-rising c = range-rises c.args.self.now.size
