use Rattle.std.proofs.Common.{◌^◌, pos, slice_index_or}
use Rattle.order_laws.specs.Greatest.{greatest}
use Rattle.order_laws.specs.Earlier.{component_number}
use Rattle.ref_order.specs.Kinds.{AreNumbers, AreWithin}
use Rattle.ref_order.specs.Known.{kinds_asked}
use Rattle.ref_order.proofs.excess.component_numbers.Given as goal

abbrev pub invariant-each : goal.invariant-each
invariant-each l = record {
  numbers : AreNumbers l.best (λ leaf. greatest (λ k. component_number l.model l.cube (kinds_asked l.asked) l.asked.place l.asked.dim l.element leaf (slice_index_or l.parts k (0, pos 0))) l.k);
  size : AreWithin l.best (2 ^ 40);
}
