use Rattle.std.proofs.Common.{arith}
use Rattle.arrow_laws.proofs.Made.{last-there}
use Rattle.read_sources.proofs.tables.last_of.Goals as goal

pub overflow_sub-result : goal.overflow_sub-result
overflow_sub-result c = omega (arith, last-there c.args.model.now.space c.args.cube c.space-space.ensures.valid c.requires, c.axis_count.ensures.count)

pub returns-clause-within : goal.returns-clause-within
returns-clause-within c = omega (arith, last-there c.args.model.now.space c.args.cube c.space-space.ensures.valid c.requires, c.axis_count.ensures.count)
