use Rattle.std.proofs.Common.{◌≡◌, ◌+◌, ◌++◌, drop}
use Rattle.cell_trace.specs.Inside.Items.{AreSameDimensions, item_lines_at, numbered}
use Rattle.cell_trace.specs.Inside.Sums.{IsReady}
use Rattle.cell_trace.specs.Trace.{dimensions_in}
use Rattle.cell_trace.proofs.listing.put_items.Given as goal

abbrev pub invariant-loop-item : goal.invariant-loop-item
invariant-loop-item l =
    let left = drop l.item-index l.visited in
    record {
      lines : l.lines.items ++ item_lines_at l.here l.seen.items l.number left
          ≡ l.fn.lines.items ++ item_lines_at l.here l.fn.seen.items l.fn.first l.visited;
      seen : AreSameDimensions (dimensions_in left ++ l.seen.items) (dimensions_in l.visited ++ l.fn.seen.items);
      numbers : l.number + numbered left ≡ l.fn.first + numbered l.visited;
      ready : IsReady l.here l.known l.reader;
    }
