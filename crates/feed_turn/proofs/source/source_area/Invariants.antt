use Rattle.std.proofs.Common.{◌≡◌, ◌++◌, drop}
use Rattle.feed_turn.specs.Turning.{source_sets}
use Rattle.feed_turn.specs.Views.{turn_of}
use Rattle.feed_turn.specs.Known.{AreTurns}
use Rattle.feed_turn.proofs.source.source_area.Given as goal

abbrev pub invariant-each : goal.invariant-each
invariant-each l = record {
  sets : source_sets (turn_of l.view) 0 l.view.reference.now.args ≡ l.sets.items ++ source_sets (turn_of l.view) l.place (drop l.place l.view.reference.now.args);
  turns : AreTurns l.view.model.now l.view.cube l.turns;
}
