use Rattle.std.proofs.Common.{take}
use Rattle.std.specs.List.{AllZip}
use Rattle.dim_core.specs.Draft.{IsResolved}
use Rattle.dim_core.proofs.resolve.resolve_all.Given as goal

abbrev pub invariant-loop-list : goal.invariant-loop-list
invariant-loop-list l = AllZip (IsResolved l.names.keys) (take l.list-index l.lists) l.resolved.items
