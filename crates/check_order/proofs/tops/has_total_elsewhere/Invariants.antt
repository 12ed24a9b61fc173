use Rattle.std.proofs.Common.{◌≡◌, ℕ, ◌<◌, false, not, ◌&&◌}
use Rattle.cube_space.specs.Layout.{axes}
use Rattle.check_order.specs.Inside.Tops.{is_at, has_total_at}
use Rattle.check_order.proofs.tops.has_total_elsewhere.Given as goal

abbrev pub invariant-each : goal.invariant-each
invariant-each l = (k : ℕ) → k < l.dim → (not (is_at k l.place) && has_total_at (axes l.space l.cube) k) ≡ false
