use Rattle.std.proofs.Common.{◌≡◌}
use Rattle.cell_reader.specs.Snapshots.{version_of}
use Rattle.read_cases.proofs.compared.counted_difference.Given as goal

abbrev pub invariant-each : goal.invariant-each
invariant-each g l = record {
  read : version_of l.snapshot ≡ version_of l.fn.snapshot;
  shared : version_of l.early ≡ version_of l.fn.snapshot;
}
