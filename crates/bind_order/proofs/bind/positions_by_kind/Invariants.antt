use Rattle.std.proofs.Common.{◌≡◌, map, drop, length, All}
use Rattle.cube_space.specs.Layout.{axes}
use Rattle.bind_order.specs.Ranks.{all_of}
use Rattle.bind_order.specs.ByKind.{position_by_kind}
use Rattle.bind_order.specs.Inside.Held.{IsByKind}
use Rattle.bind_order.proofs.ListFacts.{behind}
use Rattle.bind_order.proofs.bind.positions_by_kind.Given as goal

abbrev pub invariant-loop-word : goal.invariant-loop-word
invariant-loop-word l = record {
  bound : behind l.positions.items (all_of (map (position_by_kind (axes l.space l.cube)) (drop l.word-index l.words)))
      ≡ all_of (map (position_by_kind (axes l.space l.cube)) l.words);
  each : All (IsByKind (axes l.space l.cube)) l.positions.items;
  count : length l.positions.items ≡ l.word-index;
}
