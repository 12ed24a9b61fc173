use Rattle.script_bind.proofs.Numbered.{section_counts}
use Rattle.script_bind.proofs.laws.statements_are_numbered_from_1.Goals as goal

pub returns : goal.returns
returns c words lines = section_counts words lines
