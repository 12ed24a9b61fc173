-- What is chosen so far is what a source has.
use Rattle.std.proofs.Common.{◌≡◌, ℕ, true, List}
use Rattle.cube_space.specs.Layout.{axes_of}
use Rattle.rule_model.specs.Areas.{in_source_sets}
use Rattle.feed_sources.specs.Inside.Choices.{AreChosen}
use Rattle.feed_sources.proofs.choices.choose_listed.Given as goal

abbrev pub invariant-each : goal.invariant-each
invariant-each l =
    (elements : List ℕ) → in_source_sets (axes_of l.space.dimensions l.dims) l.sets elements ≡ true
    → AreChosen l.fn.choices elements → AreChosen l.choices elements
