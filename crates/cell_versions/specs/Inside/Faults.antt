-- The faults of the stored and the fed cells as those of a version.
use Rattle.cell_store.specs.declared.fault.StoreFault.{StoreFault}
use Rattle.cell_store.specs.declared.fault.StoreFault.TheVariants as stores
use Rattle.feed_map.specs.declared.fault.FedFault.{FedFault}
use Rattle.feed_map.specs.declared.fault.FedFault.TheVariants as feds
use Rattle.cell_versions.specs.declared.fault.NextFault.{NextFault}
use Rattle.cell_versions.specs.declared.fault.NextFault.TheVariants.{StoreLimit, FedLimit, Memory}

abbrev pub of_store : StoreFault → NextFault
of_store (stores.StoreLimit count) = StoreLimit count
of_store stores.Memory = Memory

abbrev pub of_fed : FedFault → NextFault
of_fed (feds.FedLimit count) = FedLimit count
of_fed feds.Memory = Memory
