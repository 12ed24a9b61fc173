-- What is chosen so far is what a source has.
use Rattle.std.proofs.Common.{◌≡◌, ℕ, true}
use Rattle.cube_space.specs.Cells.{IsCell, cube_of, elements_of, is_leaf_cell}
use Rattle.feed_sources.specs.Feeders.{StandsFor}
use Rattle.feed_sources.specs.Inside.Choices.{AreChosen}
use Rattle.feed_sources.proofs.choices.choose_kept.Given as goal

abbrev pub invariant-each : goal.invariant-each
invariant-each l =
    (x : ℕ) → IsCell l.model.space x → cube_of l.model.space x ≡ l.cube → is_leaf_cell l.model.space x ≡ true
    → StandsFor l.model l.reference x l.cell
    → AreChosen l.fn.choices (elements_of l.model.space x) → AreChosen l.choices (elements_of l.model.space x)
