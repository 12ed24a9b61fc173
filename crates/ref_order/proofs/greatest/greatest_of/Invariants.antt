use Rattle.std.proofs.Common.{◌^◌}
use Rattle.cube_space.specs.Layout.{axes}
use Rattle.order_laws.specs.Greatest.{greatest, only}
use Rattle.order_laws.specs.Scales.{set_element, is_leaf_element}
use Rattle.order_laws.specs.Earlier.{is_same}
use Rattle.ref_order.specs.Kinds.{AreByKinds, AreAllWithin}
use Rattle.ref_order.specs.Known.{number_asked}
use Rattle.ref_order.proofs.greatest.greatest_of.Given as goal

abbrev pub invariant-each : goal.invariant-each
invariant-each l = record {
  numbers : AreByKinds l.best (λ here. greatest (λ k. only (is_same here.own (is_leaf_element (axes l.cells.model.now.space l.cells.cube) l.asked.dim (set_element l.set k)))
      (number_asked l.cells.model.now l.cells.cube l.asked (set_element l.set k) here.its)) l.k);
  size : AreAllWithin l.best (2 ^ 40);
}
