use Rattle.std.proofs.Common.{take}
use Rattle.dim_core.specs.Draft.{IsResolved}
use Rattle.dim_core.proofs.resolve.resolve.Given as goal

abbrev pub invariant-loop-name : goal.invariant-loop-name
invariant-loop-name l = IsResolved l.names.keys (take l.name-index l.parts) l.resolved.items
