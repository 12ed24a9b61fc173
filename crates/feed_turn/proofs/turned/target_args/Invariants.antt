use Rattle.std.proofs.Common.{◌≡◌, map, Some}
use Rattle.std.specs.List.{range_with_len}
use Rattle.feed_turn.specs.Turning.{target_arg, all_found}
use Rattle.feed_turn.specs.Views.{turn_of}
use Rattle.feed_turn.specs.Known.{AreTurns}
use Rattle.feed_turn.proofs.turned.target_args.Given as goal

abbrev pub invariant-each : goal.invariant-each
invariant-each l = record {
  found : all_found (map (target_arg (turn_of l.view)) (range_with_len 0 l.dim)) ≡ Some l.args.items;
  turns : AreTurns l.view.model.now l.view.cube l.turns;
}
