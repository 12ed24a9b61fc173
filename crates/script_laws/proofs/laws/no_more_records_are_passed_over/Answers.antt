use Rattle.script_laws.proofs.Rejects.{no_more}
use Rattle.script_laws.proofs.laws.no_more_records_are_passed_over.Goals as goal

pub returns : goal.returns
returns c script params decimal most rows store writes = no_more most script params decimal rows store writes
