-- Each node gets the writes up to its last cell.
use Rattle.std.proofs.Common.{◌≡◌, ◌++◌, ◌<◌, length, take, drop, get_or, ap, sym, ◌∙◌, take-append-drop}
use Rattle.cell_store.specs.Inside.Order.{after_entries}
use Rattle.cell_store.specs.Inside.Levels.{entries_under, level_entries}
use Rattle.cell_store.proofs.Edits.{rising-above}
use Rattle.cell_store.proofs.Parts.{rising-part, rising-front, more_rising, changed-next}
use Rattle.cell_store.proofs.Levels.{last_of, nodes_end}
use Rattle.cell_store.proofs.level.LevelPart.add_changed.Goals as goal

pub add_node-requires-clause-rising : goal.add_node-requires-clause-rising
add_node-requires-clause-rising g c =
    let level = c.args.level.now in
    let is : c.node-item.result ≡ get_or level.nodes.items c.loop-node.node-index c.node-item.result = rw c.deref-node-items.ensures.value at c.node-item.is in
    let low : c.loop-node.node-index < length level.nodes.items = rw c.deref-node-items.ensures.value at c.loop-node-test.true in
    rising-part g.E.Placed.cell last_of (entries_under g.T.Part.entries) level.nodes.items (g.T.Part.entries level.last) (nodes_end g.E.Placed.cell g.T.Part.entries g.T.Part.is_sized g.T.Part.size g.T.Part.half level.nodes.items c.requires.part.nodes) c.requires.rising c.loop-node.node-index c.node-item.result low is

pub add_node-requires-clause-writes : goal.add_node-requires-clause-writes
add_node-requires-clause-writes g c =
    let rest = c.loop-node.rest.now in
    rising-front g.E.Placed.cell (take c.count_up_to-count.result rest) (drop c.count_up_to-count.result rest) rest (take-append-drop c.count_up_to-count.result rest) c.loop-node.invariant.writes

pub add_part-requires-clause-rising : goal.add_part-requires-clause-rising
add_part-requires-clause-rising g c =
    let level = c.args.level.now in
    more_rising g.E.Placed.cell last_of (entries_under g.T.Part.entries) level.nodes.items (g.T.Part.entries level.last) (nodes_end g.E.Placed.cell g.T.Part.entries g.T.Part.is_sized g.T.Part.size g.T.Part.half level.nodes.items c.requires.part.nodes) c.requires.rising

pub loop-node-preserved : goal.loop-node-preserved
loop-node-preserved g c =
    let cell = g.E.Placed.cell in
    let is_gone = g.E.Stored.is_gone in
    let level = c.args.level.now in
    let is : c.node-item.result ≡ get_or level.nodes.items c.loop-node.node-index c.node-item.result = rw c.deref-node-items.ensures.value at c.node-item.is in
    let low : c.loop-node.node-index < length level.nodes.items = rw c.deref-node-items.ensures.value at c.loop-node-test.true in
    let rest = c.loop-node.rest.now in
    let count = c.count_up_to-count.result in
    let later = c.above-rest.result.now in
    let parts : take count rest ++ later ≡ rest = ap (λ xs. take count rest ++ xs) (c.above-rest.ensures ∙ sym c.count_up_to-count.ensures.back) ∙ take-append-drop count rest in
    record {
      sized = c.in_ok-add_node.ensures.sized;
      writes = rising-above cell is_gone c.node-item.result.last rest later c.above-rest.ensures c.loop-node.invariant.writes;
      entries = changed-next cell last_of (entries_under g.T.Part.entries) level.nodes.items (g.T.Part.entries level.last) (nodes_end cell g.T.Part.entries g.T.Part.is_sized g.T.Part.size g.T.Part.half level.nodes.items c.requires.part.nodes) c.requires.rising is_gone c.loop-node.node-index c.node-item.result rest (take count rest) later (level_entries g.T.Part.entries c.loop-node.self) (level_entries g.T.Part.entries c.add_node.new.level) (level_entries g.T.Part.entries record { nodes = c.reserve_exact.new.self; last = c.args.self.now.last } ++ after_entries cell is_gone (level_entries g.T.Part.entries level) c.args.writes.now) low is parts c.count_up_to-count.ensures.front c.above-rest.ensures c.in_ok-add_node.ensures.entries c.loop-node.invariant.entries;
    }
