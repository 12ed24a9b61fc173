use Rattle.std.proofs.Common.{◌≡◌, false, None, IfSome}
use Rattle.std.specs.Prelude.{slice_index_or}
use Rattle.order_laws.specs.Scales.{set_element}
use Rattle.cover_laws.specs.Looking.{some_below, is_narrow}
use Rattle.feed_cover.specs.Views.{look_of}
use Rattle.feed_cover.specs.Asked.{IsNarrowBelow}
use Rattle.feed_cover.proofs.each.only_narrow.Given as goal

abbrev pub invariant-each : goal.invariant-each
invariant-each l = record {
  found : IfSome l.only (IsNarrowBelow (look_of l.model l.view) l.dim l.k);
  none : l.only ≡ None → some_below (λ j. is_narrow (look_of l.model l.view) l.dim (set_element (slice_index_or l.view.area.now.sets l.dim None) j)) l.k ≡ false;
}
