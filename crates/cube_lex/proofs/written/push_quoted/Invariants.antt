use Rattle.std.proofs.Common.{◌≡◌, ◌++◌, ◌∷◌, [], take}
use Rattle.cube_lex.specs.Quoted.{doubled}
use Rattle.cube_lex.proofs.written.push_quoted.Given as goal

abbrev pub invariant-loop-byte : goal.invariant-loop-byte
invariant-loop-byte l = l.out.items ≡ (l.fn.out.items ++ 39 ∷ []) ++ doubled (take l.byte-index l.bytes)
