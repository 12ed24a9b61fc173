-- The first reference of a model that may read at a greater lag.
use Rattle.rule_model.specs.BoundModel.{BoundModel}
use Rattle.read_sources.specs.declared.fault.ReadFault.{ReadFault}
use Rattle.read_sources.specs.declared.fault.ReadFault.TheVariants as reads
use Rattle.order_find.specs.declared.fault.FindFault.{FindFault}
use Rattle.order_find.specs.declared.fault.FindFault.TheVariants.{Unlagged, Cycle, Memory}
pub use Rattle.read_sources.specs.Unlagged.{IsLevelReference, IsFirstUnlagged}

-- why sources aren't gathered is why no order is found
abbrev pub find_fault : ReadFault → FindFault
find_fault (reads.Unlagged cube statement reference) = Unlagged cube statement reference
find_fault reads.Memory = Memory

abbrev pub IsUnlaggedFault : BoundModel → FindFault → Type 0
IsUnlaggedFault m (Unlagged cube statement reference) = IsFirstUnlagged m cube statement reference
IsUnlaggedFault m (Cycle links) = ⊥
IsUnlaggedFault m Memory = Unit {0}
