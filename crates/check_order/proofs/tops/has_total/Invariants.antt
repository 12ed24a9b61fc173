use Rattle.std.proofs.Common.{◌≡◌, ℕ, ◌<◌, false}
use Rattle.check_order.specs.declared.tops.Which.TheVariants.{Totals}
use Rattle.check_order.specs.Inside.Tops.{is_taken}
use Rattle.check_order.proofs.tops.has_total.Given as goal

abbrev pub invariant-each : goal.invariant-each
invariant-each l = (k : ℕ) → k < l.element → is_taken Totals l.dimension k ≡ false
