-- the bytes so far and the reading of what is left are the reading of all
use Rattle.std.proofs.Common.{◌≡◌, ◌++◌, length}
use Rattle.cube_lex.specs.Quoted.{undoubled, unquoted}
use Rattle.cube_lex.proofs.quoted.unquoted.Given as goal

abbrev pub invariant-bytes : goal.invariant-bytes
invariant-bytes l = l.bytes.items ++ undoubled l.rest ≡ unquoted l.fn.piece

abbrev pub decreases-bytes : goal.decreases-bytes
decreases-bytes l = length l.rest
