use Rattle.std.proofs.Common.{◌≡◌, ◌++◌, ◌∷◌, [], take}
use Rattle.cube_lex.specs.Quoted.{doubled}
use Rattle.cell_names.specs.CellNames.{one_line}
use Rattle.cell_names.proofs.names.write_quoted_name.Given as goal

abbrev pub invariant-loop-byte : goal.invariant-loop-byte
invariant-loop-byte l = l.out.items ≡ (l.fn.out.items ++ 39 ∷ []) ++ doubled (one_line (take l.byte-index l.bytes))
