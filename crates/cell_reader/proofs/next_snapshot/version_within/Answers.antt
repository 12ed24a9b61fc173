use Rattle.std.proofs.Common.{rules}
use Rattle.std.specs.Prelude.{IsOkUnless}
use Rattle.cell_versions.specs.declared.fault.NextFault.TheVariants.{Memory}
use Rattle.cell_reader.proofs.next_snapshot.version_within.Goals as goal

-- no limit is passed
pub unreachable-requires : goal.unreachable-requires
unreachable-requires c =
    let within : IsOkUnless c.version_after.result Memory = c.version_after.ensures.limits.within c.requires.within.few_stored c.requires.within.few_fed in
    search rules
