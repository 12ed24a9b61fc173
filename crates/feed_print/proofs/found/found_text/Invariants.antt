use Rattle.feed_print.specs.FoundText.{IsTextUpTo}
use Rattle.feed_print.proofs.found.found_text.Given as goal

-- the text of the cubes so far
abbrev pub invariant-cubes : goal.invariant-cubes
invariant-cubes l = IsTextUpTo l.model.space l.found.feeders l.found.unturned l.cube l.text.items
