use Rattle.std.proofs.Common.{◌≡◌, true, not, ◌||◌, None}
use Rattle.std.specs.Prelude.{slice_index_or}
use Rattle.order_laws.specs.Scales.{set_element}
use Rattle.cover_laws.specs.Looking.{each_below, is_narrow}
use Rattle.feed_cover.specs.Views.{look_of}
use Rattle.feed_cover.proofs.each.each_narrow.Given as goal

abbrev pub invariant-each : goal.invariant-each
invariant-each g l =
    each_below (λ k. not (is_narrow (look_of l.model l.view) l.dim (set_element (slice_index_or l.view.area.now.sets l.dim None) k))
    || g.T.ElementTest.passes l.test (set_element (slice_index_or l.view.area.now.sets l.dim None) k)) l.k ≡ true
