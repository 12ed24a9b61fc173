use Rattle.std.proofs.Common.{rules}
use Rattle.cell_values.specs.Reading.{value_on}
use Rattle.user_session.proofs.get_command.get.Goals as goal

pub returns-in_ok-value-in-Some-clause-effect : goal.returns-in_ok-value-in-Some-clause-effect
unfolding value_on
returns-in_ok-value-in-Some-clause-effect c = search rules
