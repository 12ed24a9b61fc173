use Rattle.std.proofs.Common.{◌≡◌, ◌++◌, ◌∷◌, take}
use Rattle.cube_lex.specs.Quoted.{doubled}
use Rattle.feed_print.proofs.printing.push_quoted.Given as goal

abbrev pub invariant-each : goal.invariant-each
invariant-each l = l.out.items ≡ l.fn.out.items ++ 39 ∷ doubled (take l.byte-index l.bytes)
