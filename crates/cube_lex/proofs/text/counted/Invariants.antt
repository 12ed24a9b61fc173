use Rattle.std.proofs.Common.{length}
use Rattle.cube_lex.proofs.Counting.{Counting}
use Rattle.cube_lex.proofs.text.counted.Given as goal

abbrev pub invariant-parts : goal.invariant-parts
invariant-parts l = Counting l.text l.tokens l.at l.line l.rest

abbrev pub decreases-parts : goal.decreases-parts
decreases-parts l = length l.rest
