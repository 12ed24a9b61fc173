use Rattle.std.proofs.Common.{◌≡◌, true, not, ◌||◌, None}
use Rattle.std.specs.Prelude.{slice_index_or}
use Rattle.order_laws.specs.Scales.{set_element}
use Rattle.cover_laws.specs.Looking.{each_below, is_narrow}
use Rattle.feed_cover.specs.Views.{look_of}
use Rattle.feed_cover.specs.Tests.{AreOvers, is_sent_back}
use Rattle.feed_cover.proofs.back.each_back.Given as goal

abbrev pub invariant-each : goal.invariant-each
invariant-each l = record {
  each : each_below (λ k. not (is_narrow (look_of l.back.model.now l.back.view) l.back.dim (set_element (slice_index_or l.back.view.area.now.sets l.back.dim None) k))
      || is_sent_back l.back (set_element (slice_index_or l.back.view.area.now.sets l.back.dim None) k)) l.k ≡ true;
  overs : AreOvers l.back.model.now l.back.view l.back.dim l.back.place l.back.to.now l.overs;
}
