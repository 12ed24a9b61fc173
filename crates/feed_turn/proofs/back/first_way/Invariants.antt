use Rattle.std.proofs.Common.{◌≡◌, drop}
use Rattle.feed_turn.specs.Turning.{first_way}
use Rattle.feed_turn.specs.Views.{turn_of}
use Rattle.feed_turn.specs.Known.{AreTurns}
use Rattle.feed_turn.proofs.back.first_way.Given as goal

abbrev pub invariant-each : goal.invariant-each
invariant-each l = record {
  way : first_way (turn_of l.view) l.dim 0 l.view.reference.now.args ≡ first_way (turn_of l.view) l.dim l.place (drop l.place l.view.reference.now.args);
  turns : AreTurns l.view.model.now l.view.cube l.turns;
}
