use Rattle.std.specs.List.{AllZip, IsDistinct}
use Rattle.dim_core.specs.Draft.{IsResolvedAttribute}
use Rattle.dim_core.specs.Outline.{is_same_attribute}
use Rattle.dim_core.proofs.BadAttributes.{AreGood}
use Rattle.dim_core.proofs.resolve.resolve_attributes.Given as goal

abbrev pub invariant-loop-call : goal.invariant-loop-call
invariant-loop-call l =
    (goal.iterator-loop-call).can_next l.call-iterator ×
    (goal.iterator-loop-call).is_finite l.call-iterator ×
    AllZip (IsResolvedAttribute l.names.keys) l.yielded l.resolved ×
    AreGood l.names.keys l.yielded ×
    IsDistinct is_same_attribute l.resolved
