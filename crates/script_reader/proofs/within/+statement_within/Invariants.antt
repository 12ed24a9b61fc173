use Rattle.script_reader.proofs.within.+statement_within.Given as goal

abbrev pub decreases-statement_within : goal.decreases-statement_within
decreases-statement_within l = l.left
