use Rattle.std.proofs.Common.{◌≡◌, true}
use Rattle.cover_laws.specs.Looking.{each_below, some_in, is_narrow}
use Rattle.feed_cover.specs.Views.{look_of}
use Rattle.feed_cover.proofs.possible.has_narrow.Given as goal

abbrev pub invariant-each : goal.invariant-each
invariant-each l = each_below (λ i. some_in (look_of l.model l.view) i (is_narrow (look_of l.model l.view) i)) l.dim ≡ true
