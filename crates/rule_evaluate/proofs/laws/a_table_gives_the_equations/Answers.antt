use Rattle.rule_evaluate.proofs.TableReadings.{readings-same}
use Rattle.rule_evaluate.proofs.laws.a_table_gives_the_equations.Goals as goal

pub returns : goal.returns
returns g w stored table c rules = readings-same w stored table c rules
