-- The sources so far are placed.
use Rattle.std.proofs.Common.{◌≡◌, length}
use Rattle.read_sources.proofs.Groups.{AreParted}
use Rattle.read_sources.proofs.parting.part_sources.Given as goal

abbrev pub invariant-each : goal.invariant-each
invariant-each l = record {
  so : AreParted l.model l.sources l.k l.parted;
  marks : length l.lasts.items ≡ 4096;
}
