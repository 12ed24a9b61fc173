use Rattle.std.proofs.Common.{◌≡◌, ◌++◌, take}
use Rattle.std.specs.Prelude.{codes}
use Rattle.cube_lex.specs.Quoted.{doubled}
use Rattle.cube_server.proofs.print.push_name.Given as goal

abbrev pub invariant-loop-byte : goal.invariant-loop-byte
invariant-loop-byte l = l.text.items ≡ (l.fn.text.items ++ codes " '") ++ doubled (take l.byte-index l.name)
