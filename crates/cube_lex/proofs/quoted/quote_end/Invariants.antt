use Rattle.std.proofs.Common.{length, ◌-◌}
use Rattle.cube_lex.specs.Inside.Front.{IsInside}
use Rattle.cube_lex.proofs.quoted.quote_end.Given as goal

abbrev pub invariant-bytes : goal.invariant-bytes
invariant-bytes l = IsInside l.bytes l.at

abbrev pub decreases-bytes : goal.decreases-bytes
decreases-bytes l = length l.initial.bytes - l.at
