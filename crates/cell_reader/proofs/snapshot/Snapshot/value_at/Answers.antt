use Rattle.std.proofs.Common.{rules}
use Rattle.cell_values.specs.Reading.{value_on}
use Rattle.cell_reader.proofs.snapshot.Snapshot.value_at.Goals as goal

pub returns-clause-value : goal.returns-clause-value
unfolding value_on
returns-clause-value c = search rules
