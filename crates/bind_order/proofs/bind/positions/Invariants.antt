use Rattle.std.proofs.Common.{◌≡◌, map, drop, length, All}
use Rattle.cube_space.specs.Layout.{axes}
use Rattle.bind_order.specs.Ranks.{all_of}
use Rattle.bind_order.specs.Orders.{position_of}
use Rattle.bind_order.specs.Inside.Held.{IsHeldPosition}
use Rattle.bind_order.proofs.ListFacts.{behind}
use Rattle.bind_order.proofs.bind.positions.Given as goal

abbrev pub invariant-loop-word : goal.invariant-loop-word
invariant-loop-word l = record {
  bound : behind l.positions.items (all_of (map (position_of l.space l.cube l.version) (drop l.word-index l.words)))
      ≡ all_of (map (position_of l.space l.cube l.version) l.words);
  each : All (IsHeldPosition (axes l.space l.cube)) l.positions.items;
  count : length l.positions.items ≡ l.word-index;
}
