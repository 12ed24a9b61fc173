use Rattle.std.proofs.Common.{◌≡◌, take}
use Rattle.cell_writes.specs.Writes.{last_writes}
use Rattle.cell_reader.proofs.last_numbers.found_numbers.Given as goal

abbrev pub invariant-writes : goal.invariant-writes
invariant-writes l = l.numbers.entries ≡ last_writes (take l.write-index l.writes)
