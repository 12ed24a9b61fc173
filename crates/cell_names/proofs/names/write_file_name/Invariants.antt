use Rattle.std.proofs.Common.{◌≡◌, ◌++◌, take}
use Rattle.cell_names.specs.CellNames.{one_line}
use Rattle.cell_names.proofs.names.write_file_name.Given as goal

abbrev pub invariant-loop-byte : goal.invariant-loop-byte
invariant-loop-byte l = l.out.items ≡ l.fn.out.items ++ one_line (take l.byte-index l.name)
