use Rattle.std.proofs.Common.{length}
use Rattle.cube_lex.proofs.Readings.{Going}
use Rattle.cube_lex.proofs.reading.read.Given as goal

abbrev pub invariant-parts : goal.invariant-parts
invariant-parts l = Going l.text l.tokens.items l.at l.line l.rest

abbrev pub decreases-parts : goal.decreases-parts
decreases-parts l = length l.rest
